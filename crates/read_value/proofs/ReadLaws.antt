-- From what is known of an integer, and the word of its bytes, to what the call promises. Assumes nothing.
use Prim.Native.Nat.{ℕ, ◌+◌}
use mathlib.Core.Path.{◌≡◌, sym, subst}
use mathlib.Core.List.{List}
use native.Mathlib.Omega.{arith}
use lib.Seq.{slice}
use Rattle.wat.specs.declared.{IntegerKind.IntegerKind, FloatKind.FloatKind, Token.Token, Refused.Refused}
use Rattle.wat.specs.declared.Refusal.TheVariants.{NotThatKind}
use Rattle.wat.specs.declared.TokenKind.TheVariants as kind
use Rattle.wat_values.specs.IntegerValue.{IntegerValue}
use Rattle.wat_values.specs.IntegerValue as value
use Rattle.wat_values.specs.Reading.{There, no_place}
use Rattle.wat_values.specs.Integers.{Worded, ReadsWord}
use Rattle.wat_values.proofs.SomeValue.{made, kinds_apart}
use Rattle.wat.specs.Numbers.{IsInteger}
use Rattle.read_parts.specs.Handing.{At}
use Rattle.read_token.specs.Here.{Denied}
use Rattle.read_token.proofs.PresentLaws.{own_slice, there_fits, there_slice}

module _ {N : ℕ} {text : List ℕ} {token : Token} where
  pub word_read : {i : IntegerKind} {r : IntegerValue} → There text token → token.kind ≡ kind.Integer i
      → Worded N (slice token.offset (token.offset + token.len) text) r → ReadsWord N text token r
  word_read {i} {r} t e x = ReadsWord.integer t e (subst (λ (w : List ℕ). Worded N w r) (sym (own_slice t)) x)

  pub word_denied : {r : Refused} → Denied text token r → ReadsWord N text token (value.Refused r.refusal r.place)
  word_denied (Denied.missing b) = ReadsWord.missing b
  word_denied (Denied.no_number t n m) = ReadsWord.other_kind t n

  pub float_denied : {f : FloatKind} → There text token × (token.kind ≡ kind.Float f)
      → ReadsWord N text token (value.Refused NotThatKind no_place)
  float_denied (t, e) = ReadsWord.other_kind t (λ i q. kinds_apart q e)

-- an integer that is there lies in the text
pub integer_at : {text : List ℕ} {token : Token} {i : IntegerKind} → There text token → token.kind ≡ kind.Integer i
    → At (IsInteger i.sign i.hex) text token.offset (token.offset + token.len)
integer_at t e = record { order = omega arith; fits = there_fits t; is = (made (there_slice t e)).0 }

pub ruleset integers = (there_fits, integer_at, word_read, word_denied, float_denied)
