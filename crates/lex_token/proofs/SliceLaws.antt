-- Parts of a text, from a place to an end. Assumes nothing.
use Prim.Native.Nat.{ℕ, ◌+◌, ◌-◌, ◌≤◌, ◌<◌}
use mathlib.Core.Path.{◌≡◌, sym, ap, ◌∙◌}
use mathlib.Core.Bool.{false}
use mathlib.Core.List.{List, [], ◌∷◌, ◌++◌}
use native.Mathlib.Omega.{arith}
use lib.ListN.{length, get_or, take, drop, take-append-drop, drop_of_length-le}
use lib.Seq.{slice, length-slice, take-take, take_at, drop-append-le, length-take-le, drop-cons}
use lib.Dec.{eqb}
use Rattle.wat.specs.LexModel.{next}
use Rattle.lex_numbers.proofs.SliceLaws.{at_byte, at_end_empty}

-- the byte at a place
module _ (b : ℕ) (s : List ℕ) (at : ℕ) where
  pub next_end : length s ≤ at → next b (drop at s) ≡ false
  next_end h = rw (drop_of_length-le s h)

  pub next_byte : at < length s → next b (drop at s) ≡ eqb (get_or s at 0) b
  next_byte h = rw (drop-cons s at 0 h)

module _ (s : List ℕ) (at end : ℕ) (h : end ≤ length s) where
  pub slice_one : end ≡ at + 1 → slice at end s ≡ get_or s at 0 ∷ []
  slice_one e = at_byte s at end (omega arith) h ∙ ap (λ (t : List ℕ). get_or s at 0 ∷ t) (at_end_empty s (at + 1) end (sym e))

  pub slice_two : at + 1 < end → slice at end s ≡ get_or s at 0 ∷ get_or s (at + 1) 0 ∷ slice (at + 1 + 1) end s
  slice_two l = at_byte s at end (omega arith) h ∙ ap (λ (t : List ℕ). get_or s at 0 ∷ t) (at_byte s (at + 1) end l h)

  module _ (l : at ≤ end) where
    -- what is left from a place on is a part and what is left behind it
    pub slice_split : drop at s ≡ slice at end s ++ drop end s
    slice_split =
        ap (drop at) (sym (take-append-drop end s))
        ∙ drop-append-le at (take end s) (drop end s) (let n = length-take-le end s h in omega arith)

    pub slice_take : take (end - at) (drop at s) ≡ slice at end s
    slice_take = ap (take (end - at)) slice_split ∙ take_at (slice at end s) (drop end s) (end - at) (length-slice at end s h)

    pub slice_join : (c : ℕ) → end ≤ c → c ≤ length s → slice at c s ≡ slice at end s ++ slice end c s
    slice_join c m k =
        let n = length-take-le c s k in
        ap (drop at) (sym (take-append-drop end (take c s)) ∙ ap (λ (t : List ℕ). t ++ slice end c s) (take-take end c s m))
        ∙ drop-append-le at (take end s) (slice end c s) (let n = length-take-le end s h in omega arith)

pub ruleset nexts = (next_end, next_byte)
