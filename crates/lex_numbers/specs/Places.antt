-- What the model of number literals says of a word, and of the places in it.
use Rattle.std.specs.Prelude.{ℕ, ◌≤◌, ◌≡◌, Bool, true, List, length, take, drop, eqb, Option, Some, None, IfSome}
use Rattle.wat.specs.NumberModel.{Past, bad, past, after_sign}
use Rattle.std.specs.Cmp.Lexicographic.{pointwise}
use Rattle.wat.specs.Numbers.{prefix}
use Rattle.lex_numbers.specs.declared.Skipped.{Skipped}

-- what is passed of a word, as the bytes that are left of it
abbrev pub left_at : List ℕ → Option Skipped → Past
left_at word None = bad
left_at word (Some d) = past d.underscores (drop d.at word)

abbrev pub Within : List ℕ → Option Skipped → Type 0
Within word r = IfSome r (λ d. d.at ≤ length word)

-- what is passed is what the model says
pub record Skips (word : List ℕ) (m : Past) (r : Option Skipped) : Type 0 where
  pub same : m ≡ left_at word r
  pub within : Within word r

-- the word begins with 0x
abbrev pub begins_0x : List ℕ → Bool
begins_0x word = pointwise eqb (take 2 word) (prefix true)

pub record PastSign (word : List ℕ) (r : ℕ) : Type 0 where
  pub same : drop r word ≡ after_sign word
  pub within : r ≤ length word
