-- Looking for a byte: its tests, and what follows a place. Assumes nothing.
use Prim.Native.Nat.{ℕ, ◌+◌, ◌<◌}
use mathlib.Core.Path.{◌≡◌, sym, ap, ◌∙◌}
use mathlib.Core.Bool.{Bool, false, ◌||◌, or-false}
use mathlib.Core.List.{List, ◌∷◌}
use native.Mathlib.Numerals.{add-one}
use lib.Dec.{eqb}
use lib.ListN.{length, get_or, drop}
use lib.Seq.{drop-cons, get_or-drop}
use Rattle.wat.specs.Bytes.{has}
use Rattle.lex_classes.specs.Scan.{Clear}
use Rattle.lex_comments.specs.Find.{among}

pub among_or : (x y b : ℕ) → among x y b ≡ eqb x b || eqb y b
unfolding has
among_or x y b = ap (λ (z : Bool). eqb x b || z) (or-false (eqb y b))

pub among_same : (x y b : ℕ) (r : Bool) → r ≡ eqb x b || eqb y b → r ≡ among x y b
among_same x y b r e = e ∙ sym (among_or x y b)

-- the byte at a place, and what follows it
pub front : (s : List ℕ) (k : ℕ) → k < length s → drop k s ≡ get_or s k 0 ∷ drop (k + 1) s
front s k h = rw (add-one, drop-cons s k 0 h)

-- the byte n places behind i
pub byte_behind : (s : List ℕ) (i n k : ℕ) → i + n ≡ k → get_or (drop i s) n 0 ≡ get_or s k 0
byte_behind s i n k e = get_or-drop i s n 0 ∙ ap (λ (m : ℕ). get_or s m 0) e

-- where the places that do not pass f do not pass g
pub clear_also : {f : ℕ → Bool} {i j : ℕ} (g : ℕ → Bool) → ((k : ℕ) → f k ≡ false → g k ≡ false)
    → Clear f i j → Clear g i j
clear_also g t p = record { none = λ k a l. t k (p.none k a l) }
