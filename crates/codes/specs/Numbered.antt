-- What a number is answered: the kind that has it, or that no kind has it.
use Rattle.std.specs.Prelude.{ℕ, ◌≡◌, ◌≢◌, Result, MatchResult}
use Rattle.wat.specs.declared.TokenKind.{TokenKind}
use Rattle.wat.specs.Cases.{kind_number}
use Rattle.codes.specs.declared.Nameless.{Nameless}

abbrev pub Names : ℕ → Result TokenKind Nameless → Type 0
Names n r = MatchResult r (λ k. kind_number k ≡ n) (λ e. (e.0 ≡ n) × ((k : TokenKind) → kind_number k ≢ n))
