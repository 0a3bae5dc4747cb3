-- Numbers in decimal: the kit's figures are the definition's, and how many there are. Assumes nothing.
use Prim.Native.Nat.{ℕ, zero, suc, ◌+◌, ◌-◌, ◌/◌, ◌%◌, ◌^◌, ◌≤◌, ◌<◌}
use mathlib.Core.Path.{◌≡◌, refl, sym}
use mathlib.Core.Bool.{Bool, true, false}
use mathlib.Core.List.{[], ◌∷◌}
use native.Mathlib.Omega.{arith}
use native.Mathlib.Nat.{pow-suc}
use lib.Dec.{ltb}
use lib.ListN.{length, length-append}
use borrow.Author.Tests.{lt-ltb, le-ltb}
use Rattle.io.specs.Digits.{hex_digit_ascii, last_digits, IsDigitCount}
use Rattle.wat.specs.Bytes.{byte}
use Rattle.tokens_lines.specs.Lines.{decimal_by, decimal}
use Rattle.tokens_lines.specs.Room.{small, longest_small}

power_some : (k : ℕ) → 0 < 10 ^ k
power_some zero = omega arith
power_some (suc k) = omega (arith, power_some k, pow-suc 10 k)

one_less : (k : ℕ) → suc k - 1 ≡ k
one_less k = omega arith

figure : (d : ℕ) → d < 10 → hex_digit_ascii d ≡ byte "0" + d
figure d h = rw (lt-ltb d 10 h)

single : (j n : ℕ) → n < 10 → decimal_by j n ≡ (byte "0" + n) ∷ []
unfolding decimal_by
single zero n h = refl
single (suc j) n h = rw (lt-ltb n 10 h, decimal_by)

digits_by : (k j n : ℕ) → n ≤ j → IsDigitCount 10 1 n k → last_digits 10 k n ≡ decimal_by j n
unfolding decimal_by
digits_by zero j n h f = absurd (omega (arith, f.0))
digits_by (suc zero) j n h f =
    let l : n < 10 = f.1 in
    let z : n % 10 ≡ n = omega arith in
    rw (z, figure n l) (sym (single j n l))
digits_by (suc (suc k)) zero n h f =
    let b : 10 ^ suc k ≤ n = rw (one_less (suc k)) at (f.2 (omega arith)) in
    absurd (omega (arith, power_some (suc k)))
digits_by (suc (suc k)) (suc j) n h f =
    let b : 10 ^ suc k ≤ n = rw (one_less (suc k)) at (f.2 (omega arith)) in
    let l : n < 10 ^ suc (suc k) = f.1 in
    let s = pow-suc 10 (suc k) in
    let t = pow-suc 10 k in
    let g : 10 ≤ n = omega (arith, power_some k) in
    let m : n % 10 < 10 = omega arith in
    let i = digits_by (suc k) j (n / 10) (omega arith) (omega arith, omega arith, λ q. rw (one_less k) (omega arith)) in
    rw (le-ltb n 10 g, decimal_by, figure (n % 10) m, i)

pub decimal_digits : (k n : ℕ) → IsDigitCount 10 1 n k → last_digits 10 k n ≡ decimal n
unfolding decimal
decimal_digits k n f = digits_by k n n (omega arith) f

short_by : (k j n : ℕ) → n < 10 ^ suc k → length (decimal_by j n) ≤ suc k
unfolding decimal_by
short_by k zero n h = omega arith
short_by zero (suc j) n h = let l : n < 10 = h in rw (lt-ltb n 10 l, decimal_by) (omega arith)
short_by (suc k) (suc j) n h = go (ltb n 10) refl (short_by k j (n / 10))
  where
    go : (b : Bool) → ltb n 10 ≡ b → (n / 10 < 10 ^ suc k → length (decimal_by j (n / 10)) ≤ suc k)
        → length (decimal_by (suc j) n) ≤ suc (suc k)
    go true e ih = rw (e, decimal_by) (omega arith)
    go false e ih =
        rw (e, decimal_by)
        (let i = ih (omega (arith, pow-suc 10 (suc k))) in
        omega (arith, length-append (decimal_by j (n / 10)) ((byte "0" + n % 10) ∷ [])))

-- a small number and a byte after it
pub decimal_short : (n : ℕ) → n < small → length (decimal n) + 1 ≤ longest_small
unfolding decimal
decimal_short n h = omega (arith, short_by 4 n n h)
