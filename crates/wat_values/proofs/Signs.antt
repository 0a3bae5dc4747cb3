-- The sign that a number's bytes have: there is one, and it is what the sign call says of each such token. Assumes nothing.
use Prim.Native.Nat.{ℕ}
use mathlib.Core.Path.{◌≡◌, refl, sym, ap, ◌∙◌, subst}
use mathlib.Core.List.{List}
use Rattle.wat.specs.declared.{Sign.Sign, FloatKind.FloatKind, TokenKind.TokenKind, Token.Token}
use Rattle.wat.specs.declared.TokenKind.TheVariants as kind
use Rattle.wat_values.specs.FloatSign.{Negative}
use Rattle.wat.specs.Numbers.{negative}
use Rattle.wat_values.specs.Reading.{There, negative_of, ReadsSign, ReadsNegative}
use Rattle.wat_values.specs.Readable.{SignOf, HasSign, Signs}
use Rattle.wat.proofs.Numbers.Parts.{plain}
use Rattle.wat_values.proofs.OneValue.{signed_one, split_one}
use Rattle.wat_values.proofs.OneReading.{reads_sign_one, reads_negative_one}
use Rattle.wat_values.proofs.SomeValue.{Made, integer_split}

-- the bytes of a number have one sign
pub sign_one : {k : TokenKind} {w : List ℕ} {s s' : Sign} → SignOf k w s → SignOf k w s' → s ≡ s'
sign_one (SignOf.of_integer x) (SignOf.of_integer y) = (split_one x y).0
sign_one (SignOf.of_inf g e) (SignOf.of_inf g' e') = (signed_one g g' (plain refl refl) (plain refl refl) (sym e ∙ e')).0
sign_one (SignOf.of_nan g e) (SignOf.of_nan g' e') = (signed_one g g' (plain refl refl) (plain refl refl) (sym e ∙ e')).0
sign_one (SignOf.of_payload g d e) (SignOf.of_payload g' d' e') =
    (signed_one g g' (plain refl refl) (plain refl refl) (sym e ∙ e')).0

-- a float's sign call says whether the sign is a minus
negative_read : (text : List ℕ) (token : Token) {f : FloatKind} {s : Sign} → There text token → token.kind ≡ kind.Float f
    → negative_of f ≡ Negative (negative s) → Signs text token s
negative_read text token t e q =
    let a = ReadsNegative.sign t e in
    Signs.of_float e (subst (ReadsNegative text token) q a) (λ b x. reads_negative_one x a ∙ q)

-- a token with a sign of its own: the sign that its bytes have, which the sign call answers wherever the token is there
pub sign_found : {k : TokenKind} {w : List ℕ} → HasSign k → Made k w
    → (s : Sign) × SignOf k w s × ((text : List ℕ) (token : Token) → There text token → token.kind ≡ k → Signs text token s)
sign_found (HasSign.an_integer {i = i}) m = (
  i.sign,
  SignOf.of_integer (integer_split m.0).2,
  λ text token t e. let a = ReadsSign.sign t e in Signs.of_integer e a (λ b x. reads_sign_one x a),
)
sign_found HasSign.an_inf m =
    (m.sign, SignOf.of_inf m.signed m.is, λ text token t e. negative_read text token t e (ap Negative m.minus))
sign_found HasSign.a_nan m =
    (m.sign, SignOf.of_nan m.signed m.is, λ text token t e. negative_read text token t e (ap Negative m.minus))
sign_found HasSign.a_payload m =
    let x = m.0.2 in
    (x.sign, SignOf.of_payload x.signed m.0.1 x.is, λ text token t e. negative_read text token t e (ap Negative x.minus))
