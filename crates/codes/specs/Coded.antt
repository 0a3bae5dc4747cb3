-- A case's number and values as three words.
use Rattle.std.specs.Prelude.{ℕ, ◌^◌, ◌<◌, ◌≡◌, List, get_or}
use Rattle.codes.specs.declared.Code.{Code}

-- 0 stands for each value that the case lacks. The lengths of 2 and 22 are words, all other values are of 32 bits
pub record Coded (case : ℕ × List ℕ) (c : Code) : Type 0 where
  pub numbered : c.number ≡ case.0
  pub one : c.first ≡ get_or case.1 0 0
  pub two : c.second ≡ get_or case.1 1 0
  pub narrow : (case.0 ≡ 2 → ⊥) → (case.0 ≡ 22 → ⊥) → (c.first < 2 ^ 32) × (c.second < 2 ^ 32)
