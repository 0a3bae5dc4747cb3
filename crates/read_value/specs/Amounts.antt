-- Numbers up to a limit, and the words that they are.
use Rattle.std.specs.Prelude.{ℕ, zero, suc, ◌+◌, ◌-◌, ◌/◌, ◌≤◌, ◌<◌, ◌≡◌, Option, Some, None}
use Rattle.wat.specs.declared.Sign.{Sign}
use Rattle.wat.specs.declared.Sign.TheVariants.{Unsigned, Plus, Minus}

-- the number n, or that it is greater than the limit
abbrev pub Amounts : ℕ → ℕ → Option ℕ → Type 0
Amounts limit n None = limit < n
Amounts limit n (Some m) = (m ≡ n) × (n ≤ limit)

-- the greatest number that stands behind a sign, where max is 2^N - 1
abbrev pub greatest : Sign → ℕ → ℕ
greatest Unsigned max = max
greatest Plus max = max / 2
greatest Minus max = max / 2 + 1

-- the word of a number with its sign: -n is what n completes to 2^N
unfoldable pub negated : ℕ → ℕ → ℕ
negated zero max = 0
negated (suc n) max = max - n

abbrev pub word_of : Sign → ℕ → ℕ → ℕ
word_of Unsigned n max = n
word_of Plus n max = n
word_of Minus n max = negated n max
