-- UTF-8 seen from each byte: which byte may stand after the three before it. By this rule the check looks at many
-- places at once.
use Rattle.std.specs.Prelude.{◌≡◌, ℕ, ◌+◌, ◌<◌, ◌≤◌, List, length, drop, slice_index}
use Rattle.wat.specs.Utf8Model.{scan, checked}
use Rattle.utf8_chars.specs.Boundary.{Continues}
use Rattle.utf8_chars.specs.Fronts.{Second}

-- b continues a character exactly if n is not 0
pub record Placed (n b : ℕ) : Type 0 where
  pub asked : 0 < n → Continues b
  pub unasked : n ≡ 0 → Continues b → ⊥

-- b may follow r, q and p, which stand before it in this order
pub record Follows (r q p b : ℕ) : Type 0 where
  pub second : 0xC0 ≤ p → Continues b
  pub third : 0xE0 ≤ q → Continues b
  pub fourth : 0xF0 ≤ r → Continues b
  pub first : p < 0xC0 → q < 0xE0 → r < 0xF0 → Continues b → ⊥
  pub used : 0xC0 ≤ b → (0xC2 ≤ b) × (b ≤ 0xF4)
  pub ranged : Second p b

-- the bytes from one place to another are ASCII
abbrev pub Low : List ℕ → ℕ → ℕ → Type 0
Low s from to = (m : ℕ) → from ≤ m → m < to → slice_index s m < 0x80

-- the byte three places after each place from one to another follows the three before it
abbrev pub Right : List ℕ → ℕ → ℕ → Type 0
Right s from to =
    (m : ℕ) → from ≤ m → m < to → Follows (slice_index s m) (slice_index s (m + 1)) (slice_index s (m + 2)) (slice_index s (m + 3))

-- the three bytes at the front of a text follow each other, with nothing before them
pub record Begins (a b c : ℕ) : Type 0 where
  pub one : Follows 0 0 0 a
  pub two : Follows 0 0 a b
  pub three : Follows 0 a b c

-- the check of a text may go on from a place, as if nothing stood before it
pub record Resumes (s : List ℕ) (at : ℕ) : Type 0 where
  pub within : at ≤ length s
  pub same : scan at 0 (drop at s) ≡ checked s
