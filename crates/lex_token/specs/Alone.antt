-- A text that is one token and nothing else, by its kind.
use Rattle.std.specs.Prelude.{ℕ, List, length, Option, Some, IfSome}
use Rattle.wat.specs.declared.{Settings.Settings, TokenKind.TokenKind}
use Rattle.wat.specs.Utf8.{WellFormed}
use Rattle.lex_token.specs.Steps.{Stepped}

-- under any settings the text's first token is all of it, and k is its kind
pub record Whole (s : List ℕ) (k : TokenKind) : Type 0 where
  pub formed : WellFormed s
  pub stepped : (σ : Settings) → Stepped σ s 0 (Some (record { kind = k; end = length s }))

-- `None` says nothing
abbrev pub Alone : List ℕ → Option TokenKind → Type 0
Alone s r = IfSome r (Whole s)
