-- The ranges of a character's bytes after the first.
use Rattle.std.specs.Prelude.{◌≡◌, ℕ, ◌≤◌, List, replicate}
use Rattle.wat.specs.Utf8.{Range, ◌‥◌}

-- the ranges of n bytes that end a character
abbrev pub trailing : ℕ → List Range
trailing n = replicate n (0x80 ‥ 0xBF)

-- the four first bytes whose second byte has a range of its own
pub record Second (a b : ℕ) : Type 0 where
  pub after_e0 : a ≡ 0xE0 → 0xA0 ≤ b
  pub after_ed : a ≡ 0xED → b ≤ 0x9F
  pub after_f0 : a ≡ 0xF0 → 0x90 ≤ b
  pub after_f4 : a ≡ 0xF4 → b ≤ 0x8F
