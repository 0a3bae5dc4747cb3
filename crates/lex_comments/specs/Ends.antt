-- Where a comment ends, as a place of the text, and the bytes that are looked for to find it.
use Rattle.std.specs.Prelude.{ℕ, ◌+◌, ◌≤◌, ◌≡◌, Bool, ◌&&◌, ◌||◌, List, eqb, length, get_or, drop}
use Rattle.std.specs.Prelude.{Option, Some, None}
use Rattle.std.proofs.Math.Option as math
use Rattle.std.proofs.Math.Option.{none, some}
use Rattle.wat.specs.Bytes.{byte}
use Rattle.wat.specs.Chars.{newline}
use Rattle.wat.specs.CommentModel.{fresh, ends}

-- a line ends there, or a confusing character may begin
unfoldable pub line_stop : ℕ → Bool
line_stop b = newline b || eqb 0xE2 b

-- two bytes that open or close a block comment
unfoldable pub mark : ℕ → ℕ → Bool
mark b c = (eqb b (byte "(") && eqb c (byte ";")) || (eqb b (byte ";") && eqb c (byte ")"))

abbrev pub mark_at : List ℕ → ℕ → Bool
mark_at s k = mark (get_or s k 0) (get_or s (k + 1) 0)

-- so many bytes after `at`, or nowhere
abbrev pub end_of : ℕ → math.Option ℕ → Option ℕ
end_of at none = None
end_of at (some n) = Some (at + n)

-- the end of a block comment whose `(;` ends at `at`
pub record BlockEnd (s : List ℕ) (at : ℕ) (r : Option ℕ) : Type 0 where
  pub end : r ≡ end_of at (ends fresh 0 (drop at s))
  pub within : (k : ℕ) → r ≡ Some k → k ≤ length s
