-- The bytes of a text from a place to an end: the first of them and the rest, or none.
-- Assumes nothing.
use Prim.Native.Nat.{ℕ, ◌+◌, ◌-◌, ◌≤◌, ◌<◌}
use mathlib.Core.Path.{◌≡◌}
use mathlib.Core.List.{List, [], ◌∷◌}
use native.Mathlib.Numerals.{add-one}
use native.Mathlib.Omega.{arith}
use lib.ListN.{length, get_or, take, drop, drop_of_length-le, length-drop}
use lib.Seq.{slice, slice_empty, slice-cons, drop-cons, take_all}
use Rattle.std.proofs.lemmas.Slice.{between_is}

pub at_byte : (text : List ℕ) (i end : ℕ) → i < end → end ≤ length text
    → slice i end text ≡ get_or text i 0 ∷ slice (i + 1) end text
at_byte text i end below fits = rw add-one (slice-cons i end text 0 below fits)

pub at_end_empty : (text : List ℕ) (i end : ℕ) → i ≡ end → slice i end text ≡ []
at_end_empty text i end e = rw e (slice_empty end text)

-- the same of what is left of a word
pub byte_first : (word : List ℕ) (i : ℕ) → i < length word → drop i word ≡ get_or word i 0 ∷ drop (i + 1) word
byte_first word i below = rw add-one (drop-cons word i 0 below)

pub none_left : (word : List ℕ) (i : ℕ) → length word ≤ i → drop i word ≡ []
none_left word i h = drop_of_length-le word h

-- what a slice from a place on is
pub rest_from : (i : ℕ) (word : List ℕ) → take (length word - i) (drop i word) ≡ drop i word
rest_from i word = take_all (length word - i) (drop i word) (omega (arith, length-drop i word))

-- what a slice from a place to an end is
pub slice_between : (i end : ℕ) (text : List ℕ) → take (end - i) (drop i text) ≡ slice i end text
slice_between i end text = between_is text i end
