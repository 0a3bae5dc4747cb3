-- Laws for the code that computes a character's scalar value. Assumes nothing.
use Rattle.std.proofs.Common.{◌≡◌, ℕ, suc, ◌+◌, ◌-◌, ◌*◌, ◌%◌, ◌≤◌, List, length, get_or, take, drop, add-one, arith, drop-cons}
use native.Mathlib.Numerals.{add-two, add-three}
use Rattle.wat.specs.Utf8.{scalar}

module _ (s : List ℕ) (i n : ℕ) (h : i + n ≤ length s) where
  pub scalar_1 : (a : ℕ) → n ≡ 1 → a ≡ get_or s i 0 → a ≡ scalar (take n (drop i s))
  unfolding scalar
  scalar_1 a e p = rw (e, p, drop-cons s i 0 (omega arith))

  pub scalar_2 : (a b : ℕ) → n ≡ 2 → a ≡ get_or s i 0 → b ≡ get_or s (i + 1) 0 % 0x40
      → a % 0x20 * 0x40 + b ≡ scalar (take n (drop i s))
  unfolding scalar
  scalar_2 a b e p q = rw (e, p, q, drop-cons s i 0 (omega arith), drop-cons s (suc i) 0 (omega arith), add-one i)

  pub scalar_3 :
      (a b c : ℕ) → n ≡ 3 → a ≡ get_or s i 0 → b ≡ get_or s (i + 1) 0 % 0x40 → c ≡ get_or s (i + 2) 0 % 0x40
      → a % 0x10 * 0x1000 + b * 0x40 + c ≡ scalar (take n (drop i s))
  unfolding scalar
  scalar_3 a b c e p q r =
      let d₀ = drop-cons s i 0 (omega arith) in
      let d₁ = drop-cons s (suc i) 0 (omega arith) in
      let d₂ = drop-cons s (suc (suc i)) 0 (omega arith) in
      rw (e, p, q, r, d₀, d₁, d₂, add-one i, add-two i)

  pub scalar_4 :
      (a b c d : ℕ) → 4 ≤ n → a ≡ get_or s i 0 → b ≡ get_or s (i + 1) 0 % 0x40 → c ≡ get_or s (i + 2) 0 % 0x40
      → d ≡ get_or s (i + 3) 0 % 0x40
      → a % 0x08 * 0x40000 + b * 0x1000 + c * 0x40 + d ≡ scalar (take n (drop i s))
  unfolding scalar
  scalar_4 a b c d e p q r t =
      let m : n ≡ suc (suc (suc (suc (n - 4)))) = omega arith in
      let d₀ = drop-cons s i 0 (omega arith) in
      let d₁ = drop-cons s (suc i) 0 (omega arith) in
      let d₂ = drop-cons s (suc (suc i)) 0 (omega arith) in
      let d₃ = drop-cons s (suc (suc (suc i))) 0 (omega arith) in
      rw (m, p, q, r, t, d₀, d₁, d₂, d₃, add-one i, add-two i, add-three i)
