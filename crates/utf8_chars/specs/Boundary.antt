-- Where a text may be cut without cutting a character.
use Rattle.std.specs.Prelude.{◌≡◌, ℕ, ◌<◌, ◌≤◌, Bool, true, List, drop}
use Rattle.wat.specs.Utf8.{WellFormed}

-- a byte that continues a character, and starts none
abbrev pub Continues : ℕ → Type 0
Continues b = (0x80 ≤ b) × (b < 0xC0)

-- r says whether what is left of s from a place on is well formed
pub record Boundary (s : List ℕ) (at : ℕ) (r : Bool) : Type 0 where
  pub yes : r ≡ true → WellFormed (drop at s)
  pub only : WellFormed (drop at s) → r ≡ true
