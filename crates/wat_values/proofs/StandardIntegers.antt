-- A word and the integer that it is, in the form in which the standard has it: an sN is the word whose signed reading it
-- is, `signed_N(v) = v` below 2^(N-1), and `v - 2^N` from there on. `Word` says the same, for every width of one bit or
-- more. Assumes nothing.
use Prim.Native.Nat.{ℕ, suc, ◌-◌, ◌^◌, ◌≤◌, ◌<◌}
use mathlib.Core.Path.{◌≡◌, refl, ap}
use mathlib.Core.Bool.{Bool, true, false}
use native.Mathlib.Omega.{arith}
use native.Mathlib.Nat.{pow-suc}
use lib.Pow.{pow_pos}
use Rattle.wat.specs.declared.Sign.TheVariants.{Unsigned, Plus, Minus}
use Rattle.wat_values.specs.Integers.{Word}

-- the word v of suc M bits, read as a signed integer: whether it is negative, and how far from 0 it is
pub data SignedAs (M v : ℕ) : Bool → ℕ → Type 0 where
  low : v < 2 ^ M → SignedAs M v false v
  high : {n : ℕ} → 2 ^ M ≤ v → v < 2 ^ suc M → n ≡ 2 ^ suc M - v → SignedAs M v true n

-- uN: the word is the number
pub unsigned_word : {N n v : ℕ} → Word N Unsigned n v → (v ≡ n) × (n < 2 ^ N)
unsigned_word (Word.unsigned h) = (refl, h)

half : (M : ℕ) → 2 ^ (suc M - 1) ≡ 2 ^ M
half M = let e : suc M - 1 ≡ M = omega arith in ap (λ k. 2 ^ k) e

pub plus_signed : {M n v : ℕ} → Word (suc M) Plus n v → SignedAs M v false n
plus_signed {M} (Word.plus h) = SignedAs.low (omega (arith, half M))

pub minus_signed : {M n v : ℕ} → Word (suc M) Minus (suc n) v → SignedAs M v true (suc n)
minus_signed {M} {n} (Word.minus p h e) =
    SignedAs.high {n = suc n} (omega (arith, half M, pow-suc 2 M)) (omega arith) (omega arith)

-- -0 is 0
pub minus_zero_signed : {M v : ℕ} → Word (suc M) Minus 0 v → SignedAs M v false 0
minus_zero_signed {M} Word.minus_zero = SignedAs.low (pow_pos M)
minus_zero_signed (Word.minus p h e) = absurd (omega arith)

pub signed_plus : {M n v : ℕ} → SignedAs M v false n → Word (suc M) Plus n v
signed_plus {M} {n} (SignedAs.low h) = Word.plus {n = n} (omega (arith, half M))

pub signed_minus : {M n v : ℕ} → SignedAs M v true n → Word (suc M) Minus n v
signed_minus {M} {n} {v} (SignedAs.high h k e) =
    Word.minus {n = n} {v = v} (omega arith) (omega (arith, half M, pow-suc 2 M)) (omega arith)

-- 0 is -0
pub signed_minus_zero : {M v : ℕ} → SignedAs M v false 0 → Word (suc M) Minus 0 v
signed_minus_zero (SignedAs.low h) = Word.minus_zero

-- an sN without a sign is the uN
pub signed_unsigned : {M n v : ℕ} → SignedAs M v false n → Word (suc M) Unsigned n v
signed_unsigned {M} {n} (SignedAs.low h) = Word.unsigned {n = n} (omega (arith, pow-suc 2 M))
