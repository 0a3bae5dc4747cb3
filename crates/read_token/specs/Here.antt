-- Whether a token is there, of a kind, a number, and one that has a name: 1 to 4 at its offset, 30 and 31
-- (docs/RULES.md, 11).
use Rattle.std.specs.Prelude.{ℕ, ◌≡◌, List}
use Rattle.wat.specs.declared.{IntegerKind.IntegerKind, FloatKind.FloatKind, NumberKind.NumberKind}
use Rattle.wat.specs.declared.{TokenKind.TokenKind, Token.Token, Refused.Refused}
use Rattle.wat.specs.declared.Refusal.TheVariants.{NotThatKind}
use Rattle.wat.specs.declared.TokenKind.TheVariants as kind
use Rattle.wat.specs.declared.NumberKind.TheVariants as number
use Rattle.wat_values.specs.declared.NameKind.{NameKind}
use Rattle.wat_values.specs.Values.{Reader, Sigil, Takes}
use Rattle.wat_values.specs.Reading as reading

-- the token is not there
abbrev pub Misses : List ℕ → Token → Refused → Type 0
Misses text token r = reading.Missing text token r.refusal r.place

-- 31, which has no place
abbrev pub other : Refused
other = record { refusal = NotThatKind; place = reading.no_place }

-- the token is not there, or is there and of another kind than the one wanted
pub data Untaken (text : List ℕ) (token : Token) (wanted : TokenKind) : Refused → Type 0 where
  missing : {r : Refused} → Misses text token r → Untaken text token wanted r
  other_kind : reading.There text token → (token.kind ≡ wanted → ⊥) → Untaken text token wanted other

-- the token is not there, or is there and is no number
pub data Denied (text : List ℕ) (token : Token) : Refused → Type 0 where
  missing : {r : Refused} → Misses text token r → Denied text token r
  no_number : reading.There text token → ((i : IntegerKind) → token.kind ≡ kind.Integer i → ⊥)
      → ((f : FloatKind) → token.kind ≡ kind.Float f → ⊥) → Denied text token other

-- the token is there, and is that number
abbrev pub HereNumber : List ℕ → Token → NumberKind → Type 0
HereNumber text token (number.Integer i) = reading.There text token × (token.kind ≡ kind.Integer i)
HereNumber text token (number.Float f) = reading.There text token × (token.kind ≡ kind.Float f)

-- the token is there, and has a name of the kind
pub data HereName (text : List ℕ) (token : Token) : NameKind → Type 0 where
  named : {n : NameKind} {x : ℕ} → reading.There text token → Sigil n token.kind x → HereName text token n

-- the token is not there, or is there and has no name
pub data Unnamed (text : List ℕ) (token : Token) : Refused → Type 0 where
  missing : {r : Refused} → Misses text token r → Unnamed text token r
  no_name : reading.There text token → (Takes Reader.name token.kind → ⊥) → Unnamed text token other
