-- From what is known of a float, and what its parts hand over, to what the readers promise. Assumes nothing.
use Prim.Native.Nat.{ℕ, ◌+◌}
use mathlib.Core.Path.{◌≡◌, refl, ap, ◌∙◌}
use mathlib.Core.Bool.{Bool}
use mathlib.Core.List.{List}
use native.Mathlib.Omega.{arith}
use Rattle.wat.specs.declared.{IntegerKind.IntegerKind, FloatKind.FloatKind, TokenKind.TokenKind, Token.Token, Refused.Refused}
use Rattle.wat_values.specs.declared.FloatPart.{FloatPart}
use Rattle.wat_values.specs.Answered.{Reading}
use Rattle.wat.specs.declared.Refusal.TheVariants.{NotThatKind}
use Rattle.wat.specs.declared.TokenKind.TheVariants as kind
use Rattle.wat_values.specs.Answered as reading
use Rattle.wat.specs.declared.FloatKind.TheVariants as number
use Rattle.wat_values.specs.FloatSign as float
use Rattle.wat.specs.Tokens.{Tok}
use Rattle.wat_values.specs.Values.{Reader, Takes}
use Rattle.wat_values.specs.Reading.{There, no_place, Read, ReadsNegative}
use Rattle.wat_values.proofs.SomeValue.{kinds_apart}
use Rattle.read_parts.specs.Handing.{At, Hands}
use Rattle.read_token.specs.Here.{Denied}
use Rattle.read_token.proofs.PresentLaws.{there_fits, there_slice, hands_reads}

pub part_read : {text : List ℕ} {token : Token} {p : FloatPart} {buffer after : List ℕ} {r : Reading} {f : FloatKind}
    → There text token
    → token.kind ≡ kind.Float f
    → Hands (Reader.float p) (kind.Float f) text token.offset (token.offset + token.len) buffer r after
    → Read (Reader.float p) text token buffer r after
part_read t e h = hands_reads t e Takes.a_float h

pub float_at : {text : List ℕ} {token : Token} {f : FloatKind} → There text token → token.kind ≡ kind.Float f
    → At (Tok (kind.Float f)) text token.offset (token.offset + token.len)
float_at t e = record { order = omega arith; fits = there_fits t; is = there_slice t e }

-- ---- a token that is not there, or is another

takes_float : {p : FloatPart} {k : TokenKind} → Takes (Reader.float p) k → (f : FloatKind) × (k ≡ kind.Float f)
takes_float (Takes.a_float {f = f}) = (f, refl)

module _ {text : List ℕ} {token : Token} where
  module _ {part : FloatPart} {buffer : List ℕ} where
    pub float_denied : {r : Refused} → Denied text token r
        → Read (Reader.float part) text token buffer (reading.Refused r.refusal r.place) buffer
    float_denied (Denied.missing b) = Read.missing b
    float_denied (Denied.no_number t n m) = Read.other_kind t (λ k. let f = takes_float k in m f.0 f.1)

    pub integer_denied : {i : IntegerKind} → There text token × (token.kind ≡ kind.Integer i)
        → Read (Reader.float part) text token buffer (reading.Refused NotThatKind no_place) buffer
    integer_denied (t, e) = Read.other_kind t (λ k. kinds_apart e (takes_float k).1)

  pub negative_denied : {r : Refused} → Denied text token r → ReadsNegative text token (float.Refused r.refusal r.place)
  negative_denied (Denied.missing b) = ReadsNegative.missing b
  negative_denied (Denied.no_number t n m) = ReadsNegative.other_kind t m

  pub integer_sign_denied : {i : IntegerKind} → There text token × (token.kind ≡ kind.Integer i)
      → ReadsNegative text token (float.Refused NotThatKind no_place)
  integer_sign_denied (t, e) = ReadsNegative.other_kind t (λ f q. kinds_apart e q)

-- ---- the sign of a float that is there, by its kind

module _ {text : List ℕ} {token : Token} {f : FloatKind} (t : There text token) (e : token.kind ≡ kind.Float f) where
  pub inf_signed : {n : Bool} → f ≡ number.Inf n → ReadsNegative text token (float.Negative n)
  inf_signed q = ReadsNegative.sign t (e ∙ ap kind.Float q)

  pub nan_signed : {n : Bool} → f ≡ number.Nan n → ReadsNegative text token (float.Negative n)
  nan_signed q = ReadsNegative.sign t (e ∙ ap kind.Float q)

  pub payload_signed : {n u : Bool} → f ≡ number.NanVal n u → ReadsNegative text token (float.Negative n)
  payload_signed q = ReadsNegative.sign t (e ∙ ap kind.Float q)

  pub normal_signed : {u h : Bool} → f ≡ number.Normal u h → ReadsNegative text token float.Absent
  normal_signed q = ReadsNegative.sign t (e ∙ ap kind.Float q)

pub ruleset parts = (there_fits, float_at, part_read, float_denied, integer_denied)

pub ruleset signs =
    (negative_denied, integer_sign_denied, inf_signed, nan_signed, payload_signed, normal_signed)
