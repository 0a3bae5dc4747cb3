-- What a test of a range of numbers shows, and the values of hexadecimal digits. Assumes nothing.
use Prim.Native.Nat.{ℕ, zero, suc, ◌+◌, ◌-◌, ◌*◌, ◌/◌, ◌%◌, ◌≤◌, ◌<◌}
use mathlib.Core.Path.{◌≡◌, refl, ap, ◌∙◌}
use mathlib.Core.Logic.{⊎_elim}
use mathlib.Core.Bool.{Bool, true, false}
use mathlib.Core.Option.{none, some}
use native.Mathlib.Omega.{arith}
use lib.Dec.{eqb}
use borrow.Author.Tests.{eqb-true, eqb-false, lt-ltb}
use Rattle.wat.specs.Bytes.{byte, between}
use Rattle.wat.specs.Numbers.{digit}
use Rattle.wat.specs.StringModel.{hex_of}
use Rattle.wat.proofs.Basics.{between_in, between_true, or_split, or_no}
use Rattle.wat.specs.Utf8Model.{pick}
use Rattle.wat.proofs.Utf8Rows.{pick_both}

-- n numbers from lo on all pass a test
abbrev pub all_pass : (ℕ → Bool) → ℕ → ℕ → Bool
all_pass test lo zero = true
all_pass test lo (suc n) = pick (test lo) (all_pass test (suc lo) n) false

pub in_range : (test : ℕ → Bool) (lo n x : ℕ) → all_pass test lo n ≡ true → lo ≤ x → x < lo + n → test x ≡ true
in_range test lo zero x e l h = absurd (omega arith)
in_range test lo (suc n) x e l h = go (eqb lo x) refl (in_range test (suc lo) n x (pick_both (test lo) _ e).1)
  where
    go : (b : Bool) → eqb lo x ≡ b → (suc lo ≤ x → x < suc lo + n → test x ≡ true) → test x ≡ true
    go true p ih = rw (eqb-true lo x p) at (pick_both (test lo) _ e).0
    go false p ih = let d = eqb-false lo x p in ih (omega arith) (omega arith)

-- ---- hexadecimal digits

-- its low four bits, and 9 for a letter
abbrev value : ℕ → ℕ
value b = b % 16 + 9 * (b / 64)

between_out : (lo hi b : ℕ) → (lo ≤ b → b ≤ hi → ⊥) → between lo hi b ≡ false
between_out lo hi b n = go (between lo hi b) refl
  where
    go : (x : Bool) → between lo hi b ≡ x → between lo hi b ≡ false
    go true e = let w = between_true lo hi b e in absurd (n w.0 w.1)
    go false e = e

module _ (b : ℕ) where
  hex_decimal : 0x30 ≤ b → b ≤ 0x39 → hex_of b ≡ some (b - 0x30)
  unfolding hex_of
  hex_decimal l h = rw (between_in 0x30 0x39 b l h, hex_of)

  hex_upper : 0x41 ≤ b → b ≤ 0x46 → hex_of b ≡ some (b - 0x37)
  unfolding hex_of
  hex_upper l h = rw (between_out 0x30 0x39 b (omega arith), between_in 0x41 0x46 b l h, hex_of)

  hex_lower : 0x61 ≤ b → b ≤ 0x66 → hex_of b ≡ some (b - 0x57)
  unfolding hex_of
  hex_lower l h =
      rw (between_out 0x30 0x39 b (omega arith), between_out 0x41 0x46 b (omega arith), between_in 0x61 0x66 b l h, hex_of)

  is : (d : ℕ) → d < 16 → d ≡ value b → hex_of b ≡ some d → (hex_of b ≡ some (value b)) × (value b < 16)
  is d h q e = (e ∙ ap some q, omega (arith, h, q))

  -- the value of a digit by its bits
  pub hex_is : digit true b ≡ true → (hex_of b ≡ some (value b)) × (value b < 16)
  unfolding digit
  hex_is e =
      ⊎_elim (λ p. let w = between_true (byte "0") (byte "9") b p in
      is (b - 0x30) (omega arith) (omega arith) (hex_decimal w.0 w.1))
      (λ e.
      ⊎_elim (λ p. let w = between_true (byte "A") (byte "F") b p in is (b - 0x37) (omega arith) (omega arith) (hex_upper w.0 w.1))
      (λ p. let w = between_true (byte "a") (byte "f") b p in is (b - 0x57) (omega arith) (omega arith) (hex_lower w.0 w.1))
      (or_split (between (byte "A") (byte "F") b) (between (byte "a") (byte "f") b) e)) (or_split (between (byte "0") (byte "9") b) _ e)

  pub hex_digit : (d : ℕ) → d ≡ value b → digit true b ≡ true → hex_of b ≡ some d
  hex_digit d q e = rw q (hex_is e).0

  pub hex_small : digit true b ≡ true → value b < 16
  hex_small e = (hex_is e).1

  pub hex_none : digit true b ≡ false → hex_of b ≡ none
  unfolding hex_of digit
  hex_none e =
      let p = or_no (between (byte "0") (byte "9") b) _ e in
      let q = or_no (between (byte "A") (byte "F") b) _ p.1 in
      rw (p.0, q.0, q.1, hex_of)

  -- no digit is beyond a byte
  pub digit_far : 0xff < b → digit true b ≡ false
  unfolding digit
  digit_far h =
      rw (
        between_out (byte "0") (byte "9") b (omega arith),
        between_out (byte "A") (byte "F") b (omega arith),
        between_out (byte "a") (byte "f") b (omega arith),
      )

-- hexadecimal digits
pub ruleset hexes = (hex_digit, hex_small, hex_none, digit_far)
