-- What a C caller passes: the settings and the token that words name.
use Rattle.std.specs.Prelude.{ℕ, ◌/◌, ◌%◌, ◌^◌, ◌≤◌, ◌<◌, ◌≡◌, List, eqb, get_or}
use Rattle.wat.specs.declared.Settings.{Settings}
use Rattle.wat.specs.declared.{TokenKind.TokenKind, Token.Token}
use Rattle.wat.specs.Cases.{kind_number}

-- the settings that a word's bits say; other bits are ignored
abbrev pub settings_of : ℕ → Settings
settings_of w = record { allow_confusing = eqb (w % 2) 1; strict_digits = eqb (w / 2 % 2) 1 }

-- no token has a kind of that number, or a length that 32 bits do not hold
pub data NoToken (kind len : ℕ) : Type 0 where
  nameless : ((k : TokenKind) → kind_number k ≡ kind → ⊥) → NoToken kind len
  long : 2 ^ 32 ≤ len → NoToken kind len

-- the token whose kind's number, offset and length are these
pub record TokenOf (kind offset len : ℕ) (token : Token) : Type 0 where
  pub named : kind_number token.kind ≡ kind
  pub stands : token.offset ≡ offset
  pub long : token.len ≡ len
  pub fits : len < 2 ^ 32

-- the token that three words name
abbrev pub Denotes : List ℕ → Token → Type 0
Denotes w t = TokenOf (get_or w 0 0) (get_or w 1 0) (get_or w 2 0) t

abbrev pub DenotesNone : List ℕ → Type 0
DenotesNone w = NoToken (get_or w 0 0) (get_or w 2 0)

-- a token of no bytes, which stands in no text
pub record Empty (offset : ℕ) (token : Token) : Type 0 where
  pub stands : token.offset ≡ offset
  pub long : token.len ≡ 0

-- what `token_of` answers: the token that is named, or one of no bytes where the words name none
pub data Asks (w : List ℕ) (t : Token) : Type 0 where
  one : Denotes w t → Asks w t
  none : DenotesNone w → Empty (get_or w 1 0) t → Asks w t
