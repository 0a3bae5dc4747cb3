-- The digits of `\u{..}`, as tested and as defined. Assumes nothing.
use Prim.Native.Nat.{ℕ, ◌+◌, ◌-◌, ◌≤◌, ◌<◌}
use mathlib.Core.Path.{◌≡◌, refl, sym, ap, ◌∙◌}
use mathlib.Core.List.{List, [], ◌∷◌}
use mathlib.Core.Option.{Option, none, some}
use mathlib.Core.Bool.{Bool, true, false}
use native.Mathlib.Omega.{arith}
use lib.Dec.{eqb}
use borrow.Author.Tests.{ne_eqb, eqb-false}
use Rattle.wat.specs.Bytes.{between}
use Rattle.wat.specs.Strings.{Hex}
use Rattle.wat.specs.Numbers.{digit}
use Rattle.wat.specs.StringFaults.{going_on, NumberEnds}
use Rattle.wat.specs.StringModel.{hex_of}
use Rattle.wat.proofs.Basics.{between_in, between_over, between_true, differ, never, or_no}

-- the scalar value is that of a hexadecimal digit
abbrev pub Digit : ℕ → Type 0
Digit x = (n : ℕ) × Hex x n

-- a number of `\u{..}` goes on here: a digit or an underscore is next
pub data GoesOn : List ℕ → Type 0 where
  digits_on : {d n : ℕ} {t : List ℕ} → Hex d n → GoesOn (d ∷ t)
  gap : {t : List ℕ} → GoesOn (0x5F ∷ t)

pub hex_of_lem : {d n : ℕ} → Hex d n → hex_of d ≡ some n
unfolding hex_of
hex_of_lem (Hex.digit n h) = rw (between_in 0x30 0x39 (0x30 + n) (omega arith) (omega arith), hex_of) (ap some (omega arith))
hex_of_lem (Hex.upper n h) =
    rw (between_over 0x30 0x39 (0x41 + n) (omega arith), between_in 0x41 0x46 (0x41 + n) (omega arith) (omega arith), hex_of)
    (ap some (omega arith))
hex_of_lem (Hex.lower n h) =
    rw (
      between_over 0x30 0x39 (0x61 + n) (omega arith),
      between_over 0x41 0x46 (0x61 + n) (omega arith),
      between_in 0x61 0x66 (0x61 + n) (omega arith) (omega arith),
      hex_of,
    )
    (ap some (omega arith))

pub hex_ascii : {d n : ℕ} → Hex d n → d < 0x80
hex_ascii (Hex.digit n h) = omega arith
hex_ascii (Hex.upper n h) = omega arith
hex_ascii (Hex.lower n h) = omega arith

pub hex_small : {d n : ℕ} → Hex d n → n < 16
hex_small (Hex.digit n h) = omega arith
hex_small (Hex.upper n h) = omega arith
hex_small (Hex.lower n h) = omega arith

abbrev pub NotHex : ℕ → Type 0
NotHex e = (0x30 ≤ e → e ≤ 0x39 → ⊥) × (0x41 ≤ e → e ≤ 0x46 → ⊥) × (0x61 ≤ e → e ≤ 0x66 → ⊥)

pub hex_not : {d n : ℕ} (e : ℕ) → NotHex e → Hex d n → eqb d e ≡ false
hex_not {d} e q h = ne_eqb d e (λ p. go p h)
  where
    go : {d n : ℕ} → d ≡ e → Hex d n → ⊥
    go p (Hex.digit n h) = q.0 (omega arith) (omega arith)
    go p (Hex.upper n h) = q.1 (omega arith) (omega arith)
    go p (Hex.lower n h) = q.2 (omega arith) (omega arith)

hex_at : (d e n m : ℕ) → d ≡ e → n ≡ m → Hex e n → Hex d m
hex_at d e n m p q h = rw (p, ← q) h

pub of_hex : (d n : ℕ) → hex_of d ≡ some n → Hex d n
unfolding hex_of
of_hex d n e = go (between 0x30 0x39 d) refl
  where
    go3 : (z : Bool) → between 0x30 0x39 d ≡ false → between 0x41 0x46 d ≡ false → between 0x61 0x66 d ≡ z → Hex d n
    go3 true a b c =
        let k : some (d - 0x57) ≡ some n = rw (a, b, c, hex_of) at e in
        let q : d - 0x57 ≡ n = cc in
        let r = between_true 0x61 0x66 d c in
        let f : d ≡ 0x61 + (d - 0x61) = omega arith in
        let g : d - 0x61 < 6 = omega arith in
        let i : 10 + (d - 0x61) ≡ n = omega arith in
        hex_at d (0x61 + (d - 0x61)) (10 + (d - 0x61)) n f i (Hex.lower (d - 0x61) g)
    go3 false a b c = let k : none ≡ some n = rw (a, b, c, hex_of) at e in differ (cc)

    go2 : (y : Bool) → between 0x30 0x39 d ≡ false → between 0x41 0x46 d ≡ y → Hex d n
    go2 true a b =
        let k : some (d - 0x37) ≡ some n = rw (a, b, hex_of) at e in
        let q : d - 0x37 ≡ n = cc in
        let r = between_true 0x41 0x46 d b in
        let f : d ≡ 0x41 + (d - 0x41) = omega arith in
        let g : d - 0x41 < 6 = omega arith in
        let i : 10 + (d - 0x41) ≡ n = omega arith in
        hex_at d (0x41 + (d - 0x41)) (10 + (d - 0x41)) n f i (Hex.upper (d - 0x41) g)
    go2 false a b = go3 (between 0x61 0x66 d) a b refl

    go : (x : Bool) → between 0x30 0x39 d ≡ x → Hex d n
    go true a =
        let k : some (d - 0x30) ≡ some n = rw (a, hex_of) at e in
        let q : d - 0x30 ≡ n = cc in
        let r = between_true 0x30 0x39 d a in
        let f : d ≡ 0x30 + (d - 0x30) = omega arith in
        let g : d - 0x30 < 10 = omega arith in
        hex_at d (0x30 + (d - 0x30)) (d - 0x30) n f q (Hex.digit (d - 0x30) g)
    go false a = go2 (between 0x41 0x46 d) a refl

pub no_hex : (x : ℕ) → (Digit x → ⊥) → hex_of x ≡ none
no_hex x f = go (hex_of x) refl
  where
    go : (o : Option ℕ) → hex_of x ≡ o → hex_of x ≡ none
    go none e = e
    go (some n) e = absurd (f (n, of_hex x n e))

pub no_digit : (x : ℕ) → hex_of x ≡ none → Digit x → ⊥
no_digit x e d = let k : some d.0 ≡ none = sym (hex_of_lem d.1) ∙ e in let z : ◌≡◌ {A = ℕ} 0 1 = cc in omega arith

-- the test of a digit, and its value
hex_tested : (x : ℕ) → (digit true x ≡ true → Digit x) × (digit true x ≡ false → hex_of x ≡ none)
unfolding digit hex_of
hex_tested x = go (between 0x30 0x39 x) (between 0x41 0x46 x) (between 0x61 0x66 x) refl refl refl
  where
    yes : (o : Option ℕ) → hex_of x ≡ o → (o ≡ none → ⊥) → Digit x
    yes none e h = absurd (h refl)
    yes (some n) e h = (n, of_hex x n e)

    go : (a b c : Bool) → between 0x30 0x39 x ≡ a → between 0x41 0x46 x ≡ b → between 0x61 0x66 x ≡ c
        → (digit true x ≡ true → Digit x) × (digit true x ≡ false → hex_of x ≡ none)
    go true b c p q r = (λ e. yes (some (x - 0x30)) (rw (p, hex_of)) (λ z. differ (cc)), λ e. absurd (never refl (rw (p, digit) at e)))
    go false true c p q r =
        (λ e. yes (some (x - 0x37)) (rw (p, q, hex_of)) (λ z. differ (cc)), λ e. absurd (never refl (rw (p, q, digit) at e)))
    go false false true p q r =
        (λ e. yes (some (x - 0x57)) (rw (p, q, r, hex_of)) (λ z. differ (cc)), λ e. absurd (never refl (rw (p, q, r, digit) at e)))
    go false false false p q r = (λ e. absurd (never (rw (p, q, r, digit) at e) refl), λ e. rw (p, q, r, hex_of))

pub tested_digit : (x : ℕ) → digit true x ≡ true → Digit x
tested_digit x = (hex_tested x).0

pub not_digit : (x : ℕ) → digit true x ≡ false → Digit x → ⊥
not_digit x e = no_digit x ((hex_tested x).1 e)

pub digit_not : (x : ℕ) → (Digit x → ⊥) → digit true x ≡ false
digit_not x f = go (digit true x) refl
  where
    go : (b : Bool) → digit true x ≡ b → digit true x ≡ false
    go true e = absurd (f ((hex_tested x).0 e))
    go false e = e

pub digit_yes : (x : ℕ) → Digit x → digit true x ≡ true
digit_yes x d = go (digit true x) refl
  where
    go : (b : Bool) → digit true x ≡ b → digit true x ≡ true
    go true e = e
    go false e = absurd (not_digit x e d)

pub goes_split : {P : Type 0} (x : ℕ) (t : List ℕ) → GoesOn (x ∷ t) → (Digit x → P) → (x ≡ 0x5F → P) → P
goes_split {P} x t g f h = go g refl
  where
    go : {l : List ℕ} → GoesOn l → l ≡ x ∷ t → P
    go (GoesOn.digits_on {d = d} {n = n} r) e = let q : d ≡ x = cc in f (n, rw (← q) r)
    go (GoesOn.gap) e = h (cc)

pub none_on : {l : List ℕ} → GoesOn l → l ≡ [] → ⊥
none_on (GoesOn.digits_on h) e = differ (cc)
none_on GoesOn.gap e = differ (cc)

-- a number that ends does not go on, and the other way round
pub ends_not : {t : List ℕ} → NumberEnds t → GoesOn t → ⊥
unfolding going_on
ends_not NumberEnds.text g = none_on g refl
ends_not (NumberEnds.other {x = x} {t = t} e) g =
    let h = or_no (digit true x) (eqb x 0x5F) e in
    goes_split x t g (not_digit x h.0) (eqb-false x 0x5F h.1)

pub not_ends : (t : List ℕ) → (GoesOn t → ⊥) → NumberEnds t
unfolding going_on
not_ends [] f = NumberEnds.text
not_ends (x ∷ t) f =
    let e : going_on x ≡ false = rw (digit_not x (λ d. f (GoesOn.digits_on d.1)), ne_eqb x 0x5F (λ e. f (rw e GoesOn.gap))) in
    NumberEnds.other e
