-- The table's rule, for every byte by one test that is computed. Assumes nothing.
use Prim.Native.Nat.{ℕ, zero, suc, ◌+◌, ◌<◌}
use mathlib.Core.Path.{◌≡◌, sym}
use mathlib.Core.List.{List, [], ◌∷◌, cons-ne-nil, head-eq_of_cons-eq, tail-eq_of_cons-eq}
use native.Mathlib.Omega.{arith}
use native.Mathlib.Nat.{add-zero, zero-add, add-suc, suc-add}
use lib.ListN.{get_or}
use Rattle.lex_classes.specs.Table.{Answers, answered, defined, Classes}

-- the answers of the classes t from byte i on
abbrev pub by_classes : ℕ → List ℕ → List Answers
by_classes i [] = []
by_classes i (n ∷ t) = answered n i ∷ by_classes (suc i) t

-- those of the definitions, for k bytes from i on
abbrev pub by_definitions : ℕ → ℕ → List Answers
by_definitions i zero = []
by_definitions i (suc k) = defined i ∷ by_definitions (suc i) k

-- where the two lists are the same, so is each answer
from : (t : List ℕ) (i k : ℕ) → by_classes i t ≡ by_definitions i k → (j : ℕ) → j < k
    → answered (get_or t j 0) (i + j) ≡ defined (i + j)
from t i zero e j h = absurd (omega arith)
from [] i (suc k) e j h = absurd (cons-ne-nil _ _ (sym e))
from (n ∷ t) i (suc k) e zero h = rw add-zero (head-eq_of_cons-eq e)
from (n ∷ t) i (suc k) e (suc j) h =
    let is = from t (suc i) k (tail-eq_of_cons-eq e) j (omega arith) in rw (suc-add i j, sym (add-suc i j)) at is

-- the rule of the whole table
pub classes : (t : List ℕ) → by_classes 0 t ≡ by_definitions 0 256 → Classes t
classes t e = record { entry = λ b h. rw zero-add at (from t 0 256 e b h) }
