-- What a scan answers: the place behind the longest run, from `at` on, of bytes that pass a test as `b`; and what a
-- search over places answers: its test may look at several bytes from a place on.
use Rattle.std.specs.Prelude.{ℕ, ◌+◌, ◌≤◌, ◌<◌, ◌≡◌, Bool, true, false, not, List, length, drop}
use Rattle.std.specs.Prelude.{Option, Some, None}
use Rattle.wat.specs.LexModel.{count}

pub record Scanned (test : ℕ → Bool) (b : Bool) (s : List ℕ) (at r : ℕ) : Type 0 where
  pub end : r ≡ at + count test b (drop at s)
  pub within : r ≤ length s

-- a scan from i on answers the same
pub record Passed (test : ℕ → Bool) (b : Bool) (s : List ℕ) (at i : ℕ) : Type 0 where
  pub on : at ≤ i
  pub same : i + count test b (drop i s) ≡ at + count test b (drop at s)
  pub within : i ≤ length s

-- what a test answers, or its contrary
abbrev pub alike : Bool → Bool → Bool
alike true c = c
alike false c = not c

-- no place from i on and before j passes
pub record Clear (f : ℕ → Bool) (i j : ℕ) : Type 0 where
  pub none : (k : ℕ) → i ≤ k → k < j → f k ≡ false

-- the first of the n places from i on that passes, counted from i; n where none does
pub record First (f : ℕ → Bool) (i n r : ℕ) : Type 0 where
  pub within : r ≤ n
  pub clear : Clear f i (i + r)
  pub stops : r < n → f (i + r) ≡ true

-- k is the first place from `at` on that passes, and stands before `to`
pub record Earliest (f : ℕ → Bool) (at to k : ℕ) : Type 0 where
  pub on : at ≤ k
  pub before : k < to
  pub clear : Clear f at k
  pub passes : f k ≡ true

-- the first place from `at` on and before `to` that passes, if one does
abbrev pub Finds : (ℕ → Bool) → ℕ → ℕ → Option ℕ → Type 0
Finds f at to None = Clear f at to
Finds f at to (Some k) = Earliest f at to k
