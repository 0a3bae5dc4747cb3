-- The number that digits are, a byte at a time, and when it is greater than a limit. Assumes nothing.
use Prim.Native.Nat.{ℕ, ◌+◌, ◌*◌, ◌/◌, ◌%◌, ◌≤◌, ◌<◌}
use native.Mathlib.Nat.{le-mul_of_pos_right, le-div_iff_mul-le, div-lt_iff_lt-mul}
use native.Mathlib.Omega.{arith}
use mathlib.Core.Path.{◌≡◌, refl}
use mathlib.Core.Bool.{Bool, true, false}
use mathlib.Core.List.{List, [], ◌∷◌}
use lib.Dec.{eqb}
use lib.ListN.{length, get_or}
use lib.Seq.{slice}
use borrow.Author.Tests.{eq-eqb, ne_eqb}
use Rattle.wat.specs.Bytes.{byte}
use Rattle.wat_values.specs.Integers.{radix}
use Rattle.wat_values.specs.IntegerModel.{digit_value, amount}
use Rattle.lex_numbers.proofs.SliceLaws.{at_byte, at_end_empty}

pub radix_some : (hex : Bool) → 0 < radix hex
radix_some false = omega arith
radix_some true = omega arith

-- whether a number has room for one more digit
module _ {n limit r : ℕ} (h : 0 < r) where
  pub room : n ≤ limit / r → n * r ≤ limit
  room k = (le-div_iff_mul-le h).0 k

  pub no_room : limit / r < n → limit < n * r
  no_room k = (div-lt_iff_lt-mul h).0 k

-- more digits make no number less
amount_grows : (r n : ℕ) (s : List ℕ) → 0 < r → n ≤ amount r n s
unfolding amount
amount_grows r n [] h = omega arith
amount_grows r n (b ∷ t) h = go (eqb b (byte "_")) refl (amount_grows r n t h) (amount_grows r (n * r + digit_value b) t h)
  where
    go : (x : Bool) → eqb b (byte "_") ≡ x → n ≤ amount r n t → n * r + digit_value b ≤ amount r (n * r + digit_value b) t
        → n ≤ amount r n (b ∷ t)
    go true e k m = rw (e, amount) k
    go false e k m = rw (e, amount) (omega (arith, le-mul_of_pos_right n h))

-- ---- a byte at a time

module _ (r n : ℕ) (text : List ℕ) (i end : ℕ) where
  module _ (below : i < end) (fits : end ≤ length text) where
    pub amount_off : get_or text i 0 ≡ byte "_" → amount r n (slice i end text) ≡ amount r n (slice (i + 1) end text)
    unfolding amount
    amount_off e = rw (at_byte text i end below fits) (rw (eq-eqb (get_or text i 0) (byte "_") e, amount))

    pub amount_on : {d : ℕ} → (get_or text i 0 ≡ byte "_" → ⊥) → d ≡ get_or text i 0 % 16 + 9 * (get_or text i 0 / 64)
        → amount r n (slice i end text) ≡ amount r (n * r + d) (slice (i + 1) end text)
    unfolding amount digit_value
    amount_on e q = rw (q, at_byte text i end below fits) (rw (ne_eqb (get_or text i 0) (byte "_") e, amount))

    -- the digits behind make it no less
    pub amount_least : {d : ℕ} → 0 < r → (get_or text i 0 ≡ byte "_" → ⊥) → d ≡ get_or text i 0 % 16 + 9 * (get_or text i 0 / 64)
        → n * r + d ≤ amount r n (slice i end text)
    amount_least {d} h e q = omega (arith, amount_on e q, amount_grows r (n * r + d) (slice (i + 1) end text) h)

    pub amount_more : 0 < r → (get_or text i 0 ≡ byte "_" → ⊥) → n * r ≤ amount r n (slice i end text)
    amount_more h e = omega (arith, amount_least h e refl)

  pub amount_end : end ≤ i → i ≤ end → amount r n (slice i end text) ≡ n
  unfolding amount
  amount_end h k = rw (at_end_empty text i end (omega arith))

pub ruleset amounts = (radix_some, room, no_room, amount_off, amount_on, amount_least, amount_more, amount_end)
