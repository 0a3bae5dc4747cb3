-- The readers by their numbers, and what is refused where words name no token.
use Rattle.std.specs.Prelude.{ℕ, zero, suc, ◌≡◌, List, [], ◌∷◌, Result, MatchResult}
use Rattle.std.proofs.Math.Option.{Option, none, some}
use Rattle.wat.specs.declared.{Token.Token, Refusal.Refusal}
use Rattle.wat_values.specs.Answered.{Reading}
use Rattle.wat.specs.declared.Refusal.TheVariants.{NotThatToken, NotThatKind}
use Rattle.wat_values.specs.Answered as reading
use Rattle.wat_values.specs.declared.FloatPart.TheVariants as the
use Rattle.read_call.specs.declared.{Reader.Reader as Named, NoReader.NoReader}
use Rattle.read_call.specs.declared.Reader.TheVariants as named
use Rattle.wat.specs.Calls.{Stands, Rejected}
use Rattle.wat_values.specs.Values.{Reader}
use Rattle.wat_values.specs.Reading.{There, no_place, Missing, Read}

-- the readers by their numbers; 2 and 3 are nobody's, since names have a call of their own
abbrev pub readers : List (Option Reader)
readers =
    some Reader.src ∷ some Reader.string ∷ none ∷ none ∷ some Reader.digits
    ∷ some (Reader.float the.Integral) ∷ some (Reader.float the.Fraction)
    ∷ some (Reader.float the.Exponent) ∷ some (Reader.float the.Payload) ∷ []

abbrev pub nth : List (Option Reader) → ℕ → Option Reader
nth [] n = none
nth (r ∷ rs) zero = r
nth (r ∷ rs) (suc n) = nth rs n

-- the reader that the code names
abbrev pub reader_of : Named → Reader
reader_of named.Src = Reader.src
reader_of named.String = Reader.string
reader_of named.Digits = Reader.digits
reader_of (named.Float part) = Reader.float part

-- the reader that has the number, or none
abbrev pub Numbered : ℕ → Result Named NoReader → Type 0
Numbered n r = MatchResult r (λ k. nth readers n ≡ some (reader_of k)) (λ e. nth readers n ≡ none)

-- the first call of the reader with the number; a number that no reader has is refused by 31, after 1 to 4 and 30
pub data ReadBy (n : ℕ) (text : List ℕ) (token : Token) (buffer : List ℕ) : Reading → List ℕ → Type 0 where
  by : {reader : Reader} {a : Reading} {b : List ℕ} → nth readers n ≡ some reader → Read reader text token buffer a b
      → ReadBy n text token buffer a b
  missing : {r : Refusal} {p : ℕ} → nth readers n ≡ none → Missing text token r p
      → ReadBy n text token buffer (reading.Refused r p) buffer
  nobody : nth readers n ≡ none → There text token
      → ReadBy n text token buffer (reading.Refused NotThatKind no_place) buffer

-- words that name no token: 1 to 4 at the offset, then 30
pub data Nowhere (text : List ℕ) (offset : ℕ) : Refusal → ℕ → Type 0 where
  rejected : {r : Refusal} {p : ℕ} → Rejected text offset r p → Nowhere text offset r p
  nothing : Stands text offset → Nowhere text offset NotThatToken no_place
