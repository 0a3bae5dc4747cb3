-- The parts of a float by its kind: what each function hands over is the value that the definitions give. Assumes nothing.
use Prim.Native.Nat.{ℕ, ◌-◌, ◌<◌}
use mathlib.Core.Path.{◌≡◌, refl, subst}
use mathlib.Core.Bool.{Bool}
use mathlib.Core.List.{List, ◌++◌}
use lib.Seq.{slice}
use Rattle.wat.specs.declared.FloatKind.{FloatKind}
use Rattle.wat.specs.declared.FloatKind.TheVariants.{Inf, Nan, NanVal, Normal}
use Rattle.wat.specs.declared.TokenKind.TheVariants as kind
use Rattle.wat_values.specs.declared.FloatPart.{FloatPart}
use Rattle.wat_values.specs.Answered.{Reading, Absent}
use Rattle.wat_values.specs.declared.FloatPart.TheVariants as the
use Rattle.wat.specs.Bytes.{byte, has}
use Rattle.wat.specs.Numbers.{IsFloat}
use Rattle.wat.specs.Tokens.{Tok}
use Rattle.wat_values.specs.Values.{Reader, Reads}
use Rattle.wat_values.proofs.SomeValue.{MadeFloat, made}
use Rattle.read_parts.specs.Handing.{At, Payload, Leaves, Hands, HandsWhole, HandsPayload}
use Rattle.read_parts.proofs.PartLaws.{none_left, fraction_absent}

-- whether a number has underscores
pub gaps : {text : List ℕ} {at end : ℕ} {u h : Bool} → At (Tok (kind.Float (Normal u h))) text at end
    → u ≡ has (byte "_") (slice at end text)
gaps t = (made t.is).1

module _ {text : List ℕ} {at end : ℕ} {k : FloatKind} (t : At (Tok (kind.Float k)) text at end) where
  made_at : {j : FloatKind} → k ≡ j → MadeFloat j (slice at end text)
  made_at e = subst (λ (j : FloatKind). MadeFloat j (slice at end text)) e (made t.is)

  -- the token is a number
  pub normal_at : {u h : Bool} → k ≡ Normal u h → At (IsFloat h) text at end
  normal_at e = record { order = t.order; fits = t.fits; is = (made_at e).0 }

  pub payload_is_at : {n u : Bool} → k ≡ NanVal n u → At Payload text at end
  payload_is_at e =
      let m = (made_at e).0 in
      let x = m.2 in
      record { order = t.order; fits = t.fits; is = (x.sign, x.u, m.0, x.signed, x.is) }

  module _ {p : FloatPart} {buffer after : List ℕ} {r : Reading} where
    -- what is handed over of this kind and part is so of an equal kind and part
    pub likewise : {j : FloatKind} {q : FloatPart} → k ≡ j → p ≡ q
        → Hands (Reader.float q) (kind.Float j) text at end buffer r after
        → Hands (Reader.float p) (kind.Float k) text at end buffer r after
    likewise e f h = rw (e, f) h

    pub whole_hands : {u h : Bool} → k ≡ Normal u h → p ≡ the.Integral → HandsWhole h u text at end buffer r after
        → Hands (Reader.float p) (kind.Float k) text at end buffer r after
    whole_hands {u} {h} e f d = likewise e f go
      where
        go : Hands (Reader.float the.Integral) (kind.Float (Normal u h)) text at end buffer r after
        go v (Reads.an_integral x) = d _ _ _ _ _ x (made_at e).1

    pub payload_hands : {n u : Bool} → k ≡ NanVal n u → p ≡ the.Payload → HandsPayload u text at end buffer r after
        → Hands (Reader.float p) (kind.Float k) text at end buffer r after
    payload_hands {n} {u} e f d = likewise e f go
      where
        go : Hands (Reader.float the.Payload) (kind.Float (NanVal n u)) text at end buffer r after
        go v (Reads.a_payload g y is) = d _ _ _ g y is (made_at e).1
        go v (Reads.of_payload o) = absurd (o refl)

  -- a part that the kind lacks

  module _ {p : FloatPart} {buffer : List ℕ} where
    pub inf_lacks : {n : Bool} → k ≡ Inf n → Hands (Reader.float p) (kind.Float k) text at end buffer Absent buffer
    inf_lacks {n} e = likewise e refl (go p)
      where
        go : (q : FloatPart) → Hands (Reader.float q) (kind.Float (Inf n)) text at end buffer Absent buffer
        go q v Reads.of_inf = none_left at buffer

    pub nan_lacks : {n : Bool} → k ≡ Nan n → Hands (Reader.float p) (kind.Float k) text at end buffer Absent buffer
    nan_lacks {n} e = likewise e refl (go p)
      where
        go : (q : FloatPart) → Hands (Reader.float q) (kind.Float (Nan n)) text at end buffer Absent buffer
        go q v Reads.of_nan = none_left at buffer

    pub payload_lacks : {n u : Bool} → k ≡ NanVal n u → (p ≡ the.Payload → ⊥)
        → Hands (Reader.float p) (kind.Float k) text at end buffer Absent buffer
    payload_lacks {n} {u} e o = likewise e refl (go p o)
      where
        go : (q : FloatPart) → (q ≡ the.Payload → ⊥)
            → Hands (Reader.float q) (kind.Float (NanVal n u)) text at end buffer Absent buffer
        go q o v (Reads.a_payload g y is) = absurd (o refl)
        go q o v (Reads.of_payload m) = none_left at buffer

    pub normal_lacks : {u h : Bool} → k ≡ Normal u h → p ≡ the.Payload
        → Hands (Reader.float p) (kind.Float k) text at end buffer Absent buffer
    normal_lacks {u} {h} e f = likewise e f go
      where
        go : Hands (Reader.float the.Payload) (kind.Float (Normal u h)) text at end buffer Absent buffer
        go v Reads.of_normal = none_left at buffer

-- no fraction, or a point alone
pub no_fraction : {text buffer : List ℕ} {at end : ℕ} {u hex : Bool} (dot to : ℕ)
    → At (Tok (kind.Float (Normal u hex))) text at end → Leaves hex text at end (λ p f e. f ++ e) dot
    → Leaves hex text at end (λ p f e. e) to → to - dot < 2
    → Hands (Reader.float the.Fraction) (kind.Float (Normal u hex)) text at end buffer Absent buffer
no_fraction {u = u} dot to t l m h = let n = normal_at t refl in fraction_absent n l m u h

pub ruleset floats =
    (payload_is_at, whole_hands, payload_hands, inf_lacks, nan_lacks, payload_lacks, normal_lacks)
