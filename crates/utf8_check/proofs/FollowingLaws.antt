-- Laws of the rule by which a byte follows three others: how the code's numbers say that it holds, and runs of places. Assumes nothing.
use Rattle.std.proofs.Common.{◌≡◌, ℕ, ◌+◌, ◌-◌, ◌<◌, ◌≤◌, List, ⊎_elim, arith}
use lib.Bits.{bit_or, or_add_and, and_le_l, and_le_r}
use Rattle.wat.proofs.Basics.{below}
use Rattle.utf8_check.specs.Following.{Placed, Follows, Right, Begins}

-- numbers that are 0 where nothing is wrong

pub or_zero : (a b : ℕ) → bit_or a b ≡ 0 → (a ≡ 0) × (b ≡ 0)
or_zero a b e =
    let o = or_add_and a b in
    let l = and_le_l a b in
    let r = and_le_r a b in
    (omega arith, omega arith)

or_none : (a b : ℕ) → a ≡ 0 → b ≡ 0 → bit_or a b ≡ 0
or_none a b p q = omega (arith, or_add_and a b)

module _ (r q p b a₁ a₂ a₃ : ℕ) (e₁ : a₁ ≡ p - 0xBF) (e₂ : a₂ ≡ q - 0xDF) (e₃ : a₃ ≡ r - 0xEF) where
  pub follows_by :
      (m l x g y z : ℕ) → (m ≡ 0 → Placed (bit_or (bit_or a₁ a₂) a₃) b)
      → (p ≡ 0xE0 → 0xA0 ≤ l) × (p ≡ 0xF0 → 0x90 ≤ l) → x ≡ l - b
      → (p ≡ 0xED → g ≤ 0x9F) × (p ≡ 0xF4 → g ≤ 0x8F) → y ≡ b - g
      → (z ≡ 0 → 0xC0 ≤ b → (0xC2 ≤ b) × (b ≤ 0xF4))
      → bit_or (bit_or (bit_or m x) y) z ≡ 0 → Follows r q p b
  follows_by m l x g y z placed low lx high gy used e =
      let o₁ = or_zero (bit_or (bit_or m x) y) z e in
      let o₂ = or_zero (bit_or m x) y o₁.0 in
      let o₃ = or_zero m x o₂.0 in
      let w = placed o₃.0 in
      record {
        second = λ h. w.asked (asks (λ t. omega arith));
        third = λ h. w.asked (asks (λ t. omega arith));
        fourth = λ h. w.asked (asks (λ t. omega arith));
        first =
            λ h₁ h₂ h₃. w.unasked (or_none (bit_or a₁ a₂) a₃ (or_none a₁ a₂ (omega arith) (omega arith)) (omega arith));
        used = used o₁.1;
        ranged =
            record {
              after_e0 = λ h. let k = low.0 h in omega arith;
              after_ed = λ h. let k = high.0 h in omega arith;
              after_f0 = λ h. let k = low.1 h in omega arith;
              after_f4 = λ h. let k = high.1 h in omega arith;
            };
      }
    where
      asks : ((a₁ ≡ 0) × (a₂ ≡ 0) × (a₃ ≡ 0) → ⊥) → 0 < bit_or (bit_or a₁ a₂) a₃
      asks n =
          ⊎_elim (λ h. h) (λ h.
          let o = or_zero (bit_or a₁ a₂) a₃ (omega arith) in
          let o' = or_zero a₁ a₂ o.0 in
          absurd (n (o'.0, o'.1, o.1))) (below 0 (bit_or (bit_or a₁ a₂) a₃))

pub begins_by_lem :
    (a b c x y z : ℕ) → (x ≡ 0 → Follows 0 0 0 a) → (y ≡ 0 → Follows 0 0 a b) → (z ≡ 0 → Follows 0 a b c)
    → bit_or (bit_or x y) z ≡ 0 → Begins a b c
begins_by_lem a b c x y z f g h e =
    let o₁ = or_zero (bit_or x y) z e in
    let o₂ = or_zero x y o₁.0 in
    record { one = f o₂.0; two = g o₂.1; three = h o₁.1 }

-- runs of places

-- a turn of a loop that joins such numbers
pub each_more :
    (P : ℕ → Type 0) (from to all x : ℕ) → (all ≡ 0 → (m : ℕ) → from ≤ m → m < to → P m) → (x ≡ 0 → P to)
    → bit_or all x ≡ 0
    → (m : ℕ) → from ≤ m → m < to + 1 → P m
each_more P from to all x before here e m h k =
    let o = or_zero all x e in
    ⊎_elim (λ l. before o.0 m h l) (λ l. let q : m ≡ to = omega arith in rw q (here o.1)) (below m to)

-- of two runs the second may begin inside the first
pub right_join : (s : List ℕ) (a b from e : ℕ) → from ≤ b → Right s a b → Right s from e → Right s a e
right_join s a b from e l p q m h k = ⊎_elim (λ x. p m h x) (λ x. q m (omega arith) k) (below m b)
