-- Pieces of messages, by functions that compute. `proofs/` shows that they say what `Messages` asks.
use Rattle.std.specs.Prelude.{ℕ, zero, suc, ◌-◌, ◌/◌, ◌%◌, true, false, List, [], ◌∷◌, ◌++◌, ltb, get_or}
use Rattle.std.proofs.Math.Option.{none, some}
use Rattle.wat.specs.{Bytes.bytes, Bytes.byte, Bytes.between}
use Rattle.wat.specs.StringModel.{letter_of}
use Rattle.messages.specs.Messages.{figure, named}

-- the digits of a number, in at most so many divisions
unfoldable pub hex_by : ℕ → ℕ → List ℕ
hex_by zero n = figure n ∷ []
hex_by (suc k) n = elim (ltb n 16) [ true ↦ figure n ∷ [] | false ↦ hex_by k (n / 16) ++ (figure (n % 16) ∷ []) ]

unfoldable pub hex : ℕ → List ℕ
hex n = hex_by n n

-- a character as a message shows it
unfoldable pub shown : ℕ → List ℕ
shown c =
    elim (letter_of named c) [
      | some l ↦ byte "\\" ∷ l ∷ []
      | none ↦ elim (between 0x20 0x7E c) [ true ↦ c ∷ [] | false ↦ bytes "\\u{" ++ (hex c ++ bytes "}") ]
    ]

-- the texts that messages begin with, by the errors' numbers from 10 on; 15, `InvalidDigit`, is no error's
abbrev pub leads : List (List ℕ)
leads =
    bytes "unterminated block comment"
    ∷ bytes "unexpected character '"
    ∷ bytes "invalid character in string '"
    ∷ bytes "invalid string escape '"
    ∷ bytes "invalid hex digit '"
    ∷ []
    ∷ bytes "expected '"
    ∷ bytes "unexpected end-of-file"
    ∷ bytes "number is too big to parse"
    ∷ bytes "invalid unicode scalar value 0x"
    ∷ bytes "bare underscore in numeric literal"
    ∷ bytes "likely-confusing unicode character found '"
    ∷ bytes "malformed UTF-8 encoding of string-based id"
    ∷ bytes "empty identifier"
    ∷ bytes "empty annotation id"
    ∷ []

unfoldable pub lead : ℕ → List ℕ
lead number = get_or leads (number - 10) []

-- the longest of them; and the longest that follows one: two characters, each `\u{`, eight digits and `}`, with the
-- text between them and a quote
abbrev pub longest_lead : ℕ
longest_lead = 43

abbrev pub longest_rest : ℕ
longest_rest = 38
