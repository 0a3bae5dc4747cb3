-- Laws for the code that holds a place's bytes against the table's ranges. Assumes nothing.
use Rattle.std.proofs.Common.{◌≡◌, ℕ, suc, ◌+◌, ◌-◌, ◌<◌, ◌≤◌, true, false, List, [], ◌∷◌, length, get_or, drop, ap}
use Rattle.std.proofs.Common.{add-one, arith, drop_of_length-le, drop-cons}
use mathlib.Core.Option.{Option, none, some}
use borrow.Author.Tests.{lt-leb}
use Rattle.wat.specs.Utf8.{Range, ◌‥◌, table}
use Rattle.wat.specs.declared.Front.TheVariants.{Whole, Wrong, Cut}
use Rattle.wat.specs.Utf8Model.{has, find, follow, start, front}
use Rattle.wat.proofs.Utf8Laws.{row_at, Outside, no_row}
use Rattle.utf8_chars.specs.Fronts.{trailing}

-- a byte against a range

pub has_under : (lo hi b : ℕ) → b < lo → has (lo ‥ hi) b ≡ false
has_under lo hi b h = rw (lt-leb lo b h)

-- one range more, after k bytes that fit

module _ (s : List ℕ) (i k : ℕ) where
  pub follow_cut : (r : Range) (rs : List Range) → length s ≤ i → follow k (r ∷ rs) (drop i s) ≡ Cut
  follow_cut r rs h = rw (drop_of_length-le s h)

  pub follow_out : (r : Range) (rs : List Range) → i < length s → has r (get_or s i 0) ≡ false
      → follow k (r ∷ rs) (drop i s) ≡ Wrong k
  follow_out r rs h e = rw (drop-cons s i 0 h, e)

  pub follow_in :
      (r : Range) (rs : List Range) (j : ℕ) → j ≡ i + 1 → i < length s → has r (get_or s i 0) ≡ true
      → follow k (r ∷ rs) (drop i s) ≡ follow (suc k) rs (drop j s)
  follow_in r rs j q h e = rw (drop-cons s i 0 h, e, q, add-one i)

  -- the same with one of the last ranges of a row

  module _ (n : ℕ) (some : 0 < n) where
    split : trailing n ≡ 0x80 ‥ 0xBF ∷ trailing (n - 1)
    split = let e : n ≡ suc (n - 1) = omega arith in ap trailing e

    pub trail_cut : length s ≤ i → follow k (trailing n) (drop i s) ≡ Cut
    trail_cut h = rw split (follow_cut (0x80 ‥ 0xBF) (trailing (n - 1)) h)

    pub trail_out : i < length s → has (0x80 ‥ 0xBF) (get_or s i 0) ≡ false → follow k (trailing n) (drop i s) ≡ Wrong k
    trail_out h e = rw split (follow_out (0x80 ‥ 0xBF) (trailing (n - 1)) h e)

    pub trail_in :
        (j : ℕ) → j ≡ i + 1 → i < length s → has (0x80 ‥ 0xBF) (get_or s i 0) ≡ true
        → follow k (trailing n) (drop i s) ≡ follow (suc k) (trailing (n - 1)) (drop j s)
    trail_in j q h e = rw split (follow_in (0x80 ‥ 0xBF) (trailing (n - 1)) j q h e)

pub trail_end : (k n : ℕ) (t : List ℕ) → n ≡ 0 → follow k (trailing n) t ≡ Whole k
trail_end k n t e = rw e

-- the first byte's row, and then the bytes after it

module _ (s : List ℕ) (i : ℕ) (h : i < length s) where
  by_row : (o : Option (List Range)) → find table (get_or s i 0) ≡ o → front (drop i s) ≡ start o (drop (i + 1) s)
  unfolding front
  by_row o e = rw (add-one i, drop-cons s i 0 h, e)

  pub front_row :
      (k lo hi : ℕ) (rs : List Range) → k < length table → get_or table k [] ≡ (lo ‥ hi ∷ rs) → lo ≤ get_or s i 0
      → get_or s i 0 ≤ hi
      → front (drop i s) ≡ follow 1 rs (drop (i + 1) s)
  front_row k lo hi rs l e a b = by_row (some rs) (row_at k lo hi (get_or s i 0) rs l e a b)

  pub front_none : Outside (get_or s i 0) table → front (drop i s) ≡ Wrong 1
  front_none o = by_row none (no_row table (get_or s i 0) o)
