-- A run of digits a byte at a time: what a loop that walks a word goes by.
-- Assumes nothing.
use Prim.Native.Nat.{ℕ, ◌+◌, ◌≤◌, ◌<◌}
use mathlib.Core.Path.{◌≡◌, refl, sym, ◌∙◌}
use mathlib.Core.Bool.{Bool, true, false, not, ◌&&◌, ◌||◌, or-true, or-false}
use mathlib.Core.List.{List, ◌∷◌}
use native.Mathlib.Omega.{arith}
use lib.Dec.{eqb}
use lib.ListN.{length, get_or, drop}
use Rattle.wat.specs.Bytes.{byte}
use Rattle.wat.specs.Numbers.{digit}
use Rattle.wat.specs.NumberModel.{Past, bad, past, and_past, run}
use Rattle.lex_numbers.proofs.SliceLaws.{byte_first, none_left}

and_past_false : (r : Past) → r ≡ and_past false r
and_past_false bad = refl
and_past_false (past b v) = refl

and_past_true : (a : Bool) (r : Past) → and_past a (and_past true r) ≡ and_past (a || true) r
and_past_true a bad = refl
and_past_true a (past c v) = rw or-true

-- up to i some of the run is passed, `seen` an underscore or not; and `must` a digit come
pub record Ran (hex : Bool) (word : List ℕ) (i : ℕ) (must seen : Bool) : Type 0 where
  pub most : i ≤ length word
  pub same : run hex true word ≡ and_past seen (run hex must (drop i word))

pub ran_none : (hex : Bool) (word : List ℕ) → Ran hex word 0 true false
ran_none hex word = record { most = omega arith; same = and_past_false _ }

-- the byte goes on the run: d says that it is a digit; or it is an underscore where no digit must come
abbrev goes : Bool → Bool → ℕ → Bool
goes d must x = d || (not must && eqb x (byte "_"))

module _ {hex : Bool} {word : List ℕ} {i : ℕ} {must seen : Bool} (r : Ran hex word i must seen) where
  abbrev whole : Past
  whole = run hex true word

  module _ (below : i < length word) where
    -- after an underscore a digit must come
    pub goes_on :
        (d : Bool) → d ≡ digit hex (get_or word i 0) → goes d must (get_or word i 0) ≡ true
        → Ran hex word (i + 1) (not d) (seen || not d)
    unfolding run
    goes_on d p g = record { most = omega arith; same = go d p g }
      where
        gap :
            (m : Bool) → false ≡ digit hex (get_or word i 0) → goes false m (get_or word i 0) ≡ true
            → and_past seen (run hex m (get_or word i 0 ∷ drop (i + 1) word))
            ≡ and_past (seen || true) (run hex true (drop (i + 1) word))
        gap true p e = cc
        gap false p e = rw (sym p, e, run) (and_past_true seen (run hex true (drop (i + 1) word)))

        go :
            (d : Bool) → d ≡ digit hex (get_or word i 0) → goes d must (get_or word i 0) ≡ true
            → whole ≡ and_past (seen || not d) (run hex (not d) (drop (i + 1) word))
        go true p g = r.same ∙ rw (byte_first word i below) (rw (sym p, or-false, run))
        go false p g = r.same ∙ rw (byte_first word i below) (gap must p g)

    -- it does not, and a digit had to come
    pub digit_missing :
        (d : Bool) → d ≡ digit hex (get_or word i 0) → goes d must (get_or word i 0) ≡ false → must ≡ true → whole ≡ bad
    unfolding run
    digit_missing true p g m = cc
    digit_missing false p g m = r.same ∙ rw (byte_first word i below) (rw (sym p, m, run))

    -- it does not, and the run ends before it
    pub digits_end :
        (d : Bool) → d ≡ digit hex (get_or word i 0) → goes d must (get_or word i 0) ≡ false → must ≡ false
        → whole ≡ past seen (drop i word)
    unfolding run
    digits_end true p g m = cc
    digits_end false p g m = r.same ∙ rw (byte_first word i below) (rw (sym p, m, rw m at g, run) (rw or-false))

  -- no byte is left
  module _ (past_end : length word ≤ i) where
    pub ended_missing : must ≡ true → whole ≡ bad
    unfolding run
    ended_missing m = r.same ∙ rw (none_left word i past_end) (rw (m, run))

    pub ended_well : must ≡ false → whole ≡ past seen (drop (length word) word)
    unfolding run
    ended_well m = r.same ∙ rw (none_left word i past_end, none_left word (length word) (omega arith)) (rw (m, run) (rw or-false))

pub ruleset runs = (ran_none, goes_on, digit_missing, digits_end, ended_missing, ended_well)
