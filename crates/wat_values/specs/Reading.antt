-- The readers' two calls (docs/RULES.md, 11). Refusals come in the order 1 to 4, 30, 31, 32, 22 to 24.
use Rattle.std.specs.Prelude.{ℕ, ◌+◌, ◌≤◌, ◌<◌, ◌≡◌, List, [], ◌++◌, length, take, drop, Some, Ok, Err}
use Rattle.wat.specs.declared.{IntegerKind.IntegerKind, FloatKind.FloatKind, Token.Token, Refusal.Refusal}
use Rattle.wat_values.specs.declared.NameKind.{NameKind}
use Rattle.wat_values.specs.{Answered.Reading, Named.NameReading}
use Rattle.wat_values.specs.{IntegerSign.IntegerSign, FloatSign.FloatSign}
use Rattle.wat.specs.declared.TokenKind.TheVariants as kind
use Rattle.wat.specs.declared.FloatKind.TheVariants.{Inf, Nan, NanVal, Normal}
use Rattle.wat.specs.Answers as answer
use Rattle.wat.specs.declared.Refusal.TheVariants.{Lexical, NotThatToken, NotThatKind, BufferTooShort}
use Rattle.wat_values.specs.Answered.{Refused, Absent, Text, Buffer}
use Rattle.wat_values.specs.Named as name
use Rattle.wat_values.specs.IntegerSign as integer
use Rattle.wat_values.specs.FloatSign as float
use Rattle.wat.specs.{Settings.lenient, Lexing.Lexed, Calls.Stands, Calls.Rejected}
use Rattle.wat_values.specs.Values.{Reader, Sigil, Takes, Value, part, copy, absent, refused, Reads}

-- the token is there: lexing at its offset, leniently, gives that kind and length
pub record There (text : List ℕ) (token : Token) : Type 0 where
  pub stands : Stands text token.offset
  pub lexed : Lexed lenient (drop token.offset text) (answer.Token token.kind token.len)

-- the place of a refusal that has none: 30, 31 and 32, and 40
abbrev pub no_place : ℕ
no_place = 0

-- 1 to 4 at the token's offset, and 30, each with its place
pub data Missing (text : List ℕ) (token : Token) : Refusal → ℕ → Type 0 where
  rejected : {r : Refusal} {p : ℕ} → Rejected text token.offset r p → Missing text token r p
  not_there : Stands text token.offset → (There text token → ⊥) → Missing text token NotThatToken no_place

abbrev pub own : List ℕ → Token → List ℕ
own text token = take token.len (drop token.offset text)

-- the bytes that a value puts into the buffer, also where it is then refused
abbrev pub needs : Value → List ℕ
needs (part n v) = []
needs (copy v) = v
needs absent = []
needs (refused v e) = v

-- where a value is, of a token at an offset; a name that is refused (22 to 24) is so at the offset
abbrev pub found : ℕ → Value → Reading
found offset (part n v) = Text (offset + n) (length v)
found offset (copy v) = Buffer 0 (length v)
found offset absent = Absent
found offset (refused v e) = Refused (Lexical e) offset

-- a value handed over, of a token at an offset: the answer, and the buffer afterwards; 32 if the copy is longer than it
pub data Handed (offset : ℕ) (v : Value) (buffer : List ℕ) : Reading → List ℕ → Type 0 where
  too_short : length buffer < length (needs v) → Handed offset v buffer (Refused BufferTooShort no_place) buffer
  fits : length (needs v) ≤ length buffer
      → Handed offset v buffer (found offset v) (needs v ++ drop (length (needs v)) buffer)

-- the first call: its answer, and the buffer afterwards
pub data Read (reader : Reader) (text : List ℕ) (token : Token) (buffer : List ℕ) : Reading → List ℕ → Type 0 where
  missing : {r : Refusal} {p : ℕ} → Missing text token r p → Read reader text token buffer (Refused r p) buffer
  other_kind : There text token → (Takes reader token.kind → ⊥)
      → Read reader text token buffer (Refused NotThatKind no_place) buffer
  reads : {v : Value} {a : Reading} {b : List ℕ} → There text token → Reads reader token.kind (own text token) v
      → Handed token.offset v buffer a b
      → Read reader text token buffer a b

-- the name call: what the reader of names answers and leaves, and with a name which of the two tokens has it
pub data ReadsName (text : List ℕ) (token : Token) (buffer : List ℕ) : NameReading → List ℕ → Type 0 where
  no_name : {r : Refusal} {p : ℕ} {b : List ℕ} → Read Reader.name text token buffer (Refused r p) b
      → ReadsName text token buffer (name.Refused r p) b
  in_text : {n : NameKind} {x start len : ℕ} {b : List ℕ} → Sigil n token.kind x
      → Read Reader.name text token buffer (Text start len) b
      → ReadsName text token buffer (name.Text n start len) b
  in_buffer : {n : NameKind} {x start len : ℕ} {b : List ℕ} → Sigil n token.kind x
      → Read Reader.name text token buffer (Buffer start len) b
      → ReadsName text token buffer (name.Buffer n start len) b

-- its answer as another reader's, which the second call takes
abbrev pub reading_of : NameReading → Reading
reading_of (Err e) = Err e
reading_of (Ok n) = Ok (Some n.part)

-- an answer of the name call says that a name is the kind's; a refusal says nothing
pub data Whose (n : NameKind) : NameReading → Type 0 where
  no_name : {r : Refusal} {p : ℕ} → Whose n (name.Refused r p)
  in_text : {start len : ℕ} → Whose n (name.Text n start len)
  in_buffer : {start len : ℕ} → Whose n (name.Buffer n start len)

-- the second call: the part that an answer names, if it lies in the text, or in the buffer; else none
pub data Second (text buffer : List ℕ) : Reading → List ℕ → Type 0 where
  in_text : {start len : ℕ} → start + len ≤ length text
      → Second text buffer (Text start len) (take len (drop start text))
  in_buffer : {start len : ℕ} → start + len ≤ length buffer
      → Second text buffer (Buffer start len) (take len (drop start buffer))
  none : {a : Reading} → ((start len : ℕ) → a ≡ Text start len → length text < start + len)
      → ((start len : ℕ) → a ≡ Buffer start len → length buffer < start + len) → Second text buffer a []

-- an integer's sign
pub data ReadsSign (text : List ℕ) (token : Token) : IntegerSign → Type 0 where
  missing : {r : Refusal} {p : ℕ} → Missing text token r p → ReadsSign text token (integer.Refused r p)
  other_kind : There text token → ((i : IntegerKind) → token.kind ≡ kind.Integer i → ⊥)
      → ReadsSign text token (integer.Refused NotThatKind no_place)
  sign : {i : IntegerKind} → There text token → token.kind ≡ kind.Integer i
      → ReadsSign text token (integer.Sign i.sign)

-- whether a float is negative; a Normal's sign is in its integral part, and absent here
abbrev pub negative_of : FloatKind → FloatSign
negative_of (Inf n) = float.Negative n
negative_of (Nan n) = float.Negative n
negative_of (NanVal n u) = float.Negative n
negative_of (Normal u h) = float.Absent

pub data ReadsNegative (text : List ℕ) (token : Token) : FloatSign → Type 0 where
  missing : {r : Refusal} {p : ℕ} → Missing text token r p → ReadsNegative text token (float.Refused r p)
  other_kind : There text token → ((f : FloatKind) → token.kind ≡ kind.Float f → ⊥)
      → ReadsNegative text token (float.Refused NotThatKind no_place)
  sign : {f : FloatKind} → There text token → token.kind ≡ kind.Float f → ReadsNegative text token (negative_of f)
