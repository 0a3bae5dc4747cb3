-- The first confusing character of a part of the text, as the code answers it, and the bytes by which one is told.
use Rattle.std.specs.Prelude.{ℕ, ◌+◌, ◌≤◌, Bool, true, false, List, Option, Some, None, ltb, get_or}
use Rattle.wat.specs.declared.Hidden.{Hidden}
use Rattle.wat.specs.declared.Hidden.TheVariants.{Clear as clear, Found as found}
use Rattle.wat.specs.declared.Hidden.TheVariants.{Clear, Found}
use Rattle.lex_classes.specs.Ask.{confusing_bytes}
use Rattle.lex_classes.specs.Scan as scan
use Rattle.lex_comments.specs.Find.{among}

-- the byte with which each of the nine begins
abbrev pub lead : ℕ → Bool
lead = among 0xE2 0xE2

-- one of the nine stands there
abbrev pub confusing_at : List ℕ → ℕ → Bool
confusing_at s k = confusing_bytes (get_or s k 0) (get_or s (k + 1) 0) (get_or s (k + 2) 0)

-- nothing before a place i is confusing, or nothing before `to`
abbrev pub Begins : List ℕ → ℕ → ℕ → Option ℕ → Type 0
Begins s from to None = scan.Clear (confusing_at s) from to
Begins s from to (Some i) = (from ≤ i) × scan.Clear (confusing_at s) from i

-- the character c at the place p, if that is before `to`
abbrev pub before : ℕ → ℕ → ℕ → Hidden
before to p c = elim (ltb p to) [ true ↦ Found p c | false ↦ Clear ]

-- what is hidden from `from` on, if it stands before `to`
abbrev pub hidden_in : ℕ → ℕ → Hidden → Hidden
hidden_in from to clear = Clear
hidden_in from to (found p c) = before to (from + p) c
