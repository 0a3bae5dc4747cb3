-- From what is known of an integer, and what its digits hand over, to what the readers promise. Assumes nothing.
use Prim.Native.Nat.{ℕ, ◌+◌}
use mathlib.Core.Path.{◌≡◌, refl}
use mathlib.Core.List.{List}
use native.Mathlib.Omega.{arith}
use Rattle.wat.specs.declared.{IntegerKind.IntegerKind, FloatKind.FloatKind, TokenKind.TokenKind, Token.Token, Refused.Refused}
use Rattle.wat_values.specs.Answered.{Reading}
use Rattle.wat.specs.declared.Refusal.TheVariants.{NotThatKind}
use Rattle.wat.specs.declared.TokenKind.TheVariants as kind
use Rattle.wat_values.specs.Answered as reading
use Rattle.wat_values.specs.IntegerSign as integer
use Rattle.wat.specs.Numbers.{IsFloat}
use Rattle.wat_values.specs.Values.{Reader, Takes, Reads}
use Rattle.wat_values.specs.Reading.{There, no_place, Read, ReadsSign}
use Rattle.wat_values.proofs.SomeValue.{made, kinds_apart, integer_split, integer_float}
use Rattle.read_parts.specs.Handing.{At, HandsWhole}
use Rattle.read_token.specs.Here.{Denied}
use Rattle.read_token.proofs.PresentLaws.{there_fits, there_slice, slice_reads}

pub integer_read : {text : List ℕ} {token : Token} {buffer after : List ℕ} {r : Reading} {i : IntegerKind} → There text token
    → token.kind ≡ kind.Integer i
    → HandsWhole i.hex i.underscores text token.offset (token.offset + token.len) buffer r after
    → Read Reader.digits text token buffer r after
integer_read {i = i} t e h =
    let m = made (there_slice t e) in
    let x = (integer_split m.0).2 in
    slice_reads t e (Reads.an_integer {i = i} x) (h _ _ _ _ _ x m.1)

-- it is a float too, as its digits are read
pub integer_at : {text : List ℕ} {token : Token} {i : IntegerKind} → There text token → token.kind ≡ kind.Integer i
    → At (IsFloat i.hex) text token.offset (token.offset + token.len)
integer_at t e =
    record { order = omega arith; fits = there_fits t; is = integer_float (made (there_slice t e)).0 }

-- ---- a token that is not there, or is another

takes_integer : {k : TokenKind} → Takes Reader.digits k → (i : IntegerKind) × (k ≡ kind.Integer i)
takes_integer (Takes.an_integer {i = i}) = (i, refl)

module _ {text : List ℕ} {token : Token} where
  module _ {buffer : List ℕ} where
    pub integer_denied : {r : Refused} → Denied text token r
        → Read Reader.digits text token buffer (reading.Refused r.refusal r.place) buffer
    integer_denied (Denied.missing b) = Read.missing b
    integer_denied (Denied.no_number t n m) = Read.other_kind t (λ k. let i = takes_integer k in n i.0 i.1)

    pub float_denied : {f : FloatKind} → There text token × (token.kind ≡ kind.Float f)
        → Read Reader.digits text token buffer (reading.Refused NotThatKind no_place) buffer
    float_denied (t, e) = Read.other_kind t (λ k. kinds_apart (takes_integer k).1 e)

  pub sign_denied : {r : Refused} → Denied text token r → ReadsSign text token (integer.Refused r.refusal r.place)
  sign_denied (Denied.missing b) = ReadsSign.missing b
  sign_denied (Denied.no_number t n m) = ReadsSign.other_kind t n

  pub float_sign_denied : {f : FloatKind} → There text token × (token.kind ≡ kind.Float f)
      → ReadsSign text token (integer.Refused NotThatKind no_place)
  float_sign_denied (t, e) = ReadsSign.other_kind t (λ i q. kinds_apart q e)

pub ruleset digits = (there_fits, integer_at, integer_read, integer_denied, float_denied)

pub ruleset signs = (ReadsSign.sign, sign_denied, float_sign_denied)
