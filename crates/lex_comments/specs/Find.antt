-- Looking for a place with a byte that passes a test: a test of a text and of a place in it.
use Rattle.std.specs.Prelude.{ℕ, Bool, List, [], ◌∷◌, get_or}
use Rattle.wat.specs.Bytes.{has}

abbrev pub among : ℕ → ℕ → ℕ → Bool
among x y b = has b (x ∷ y ∷ [])

-- the byte at a place passes
abbrev pub byte_at : (ℕ → Bool) → List ℕ → ℕ → Bool
byte_at test s k = test (get_or s k 0)
