-- What passes can be read: a text that the listing carries from byte 0 to its end is divided in one way only, and each
-- of its tokens, handed to its reader with a buffer no shorter than itself, yields the value of the definitions, and to
-- the sign call its sign. The one refusal left is a name that is empty or not UTF-8. The name call says whose name it
-- is. The value call of an integer yields its word, or 40 where it is out of range. `Passes` says it; it is proved as
-- `passes_readable`.
use Rattle.std.specs.Prelude.{ℕ, ◌≤◌, ◌≡◌, ◌↔◌, Bool, true, List, [], ◌∷◌, ◌++◌, length, drop}
use Rattle.wat.specs.declared.{Sign.Sign, IntegerKind.IntegerKind, FloatKind.FloatKind, TokenKind.TokenKind}
use Rattle.wat.specs.declared.{Token.Token, LexError.LexError, Refusal.Refusal, Refusal.TheVariants.Lexical}
use Rattle.wat.specs.declared.{Settings.Settings, Listed.Listed}
use Rattle.wat.specs.declared.TokenKind.TheVariants as kind
use Rattle.wat.specs.declared.FloatKind.TheVariants.{Inf, Nan, NanVal}
use Rattle.wat_values.specs.declared.NameKind.{NameKind}
use Rattle.wat_values.specs.{Answered.Reading, Named.NameReading}
use Rattle.wat_values.specs.{IntegerSign.IntegerSign, FloatSign.FloatSign}
use Rattle.wat_values.specs.IntegerValue.{IntegerValue}
use Rattle.wat_values.specs.Answered.{Refused}
use Rattle.wat_values.specs.IntegerSign as integer
use Rattle.wat_values.specs.FloatSign as float
use Rattle.wat.specs.Numbers.{Digits, Signed, negative, inf, nan, nan_colon}
use Rattle.wat.specs.Division.{Piece, lengths}
use Rattle.wat.specs.Whole.{Whole}
use Rattle.wat_values.specs.Values.{Reader, Sigil, Takes, Value, part, copy, absent, refused, Split, Reads}
use Rattle.wat_values.specs.Names.{Misnamed}
use Rattle.wat_values.specs.Reading.{own, needs, found, Read, ReadsName, reading_of, Whose, Second, ReadsSign}
use Rattle.wat_values.specs.Reading.{ReadsNegative}
use Rattle.wat_values.specs.Integers.{Worded, ReadsWord}

-- ---- values

-- the bytes of a value: those of the text or of the copy, and none where it is absent or refused
abbrev pub bytes_of : Value → List ℕ
bytes_of (part n v) = v
bytes_of (copy v) = v
bytes_of absent = []
bytes_of (refused v e) = []

-- a buffer after a value was copied to its front
abbrev pub filled : Value → List ℕ → List ℕ
filled v buffer = needs v ++ drop (length (needs v)) buffer

-- the reader's two calls yield the value v of the token
pub record Yields (reader : Reader) (text : List ℕ) (token : Token) (v : Value) (buffer : List ℕ) : Type 0 where
  -- the first call answers where the value is, and copies it where it is a copy
  pub answers : Read reader text token buffer (found token.offset v) (filled v buffer)
  -- it has no other answer, and leaves no other buffer
  pub only : (a : Reading) (b : List ℕ) → Read reader text token buffer a b
      → (a ≡ found token.offset v) × (b ≡ filled v buffer)
  -- the second call, given that answer, hands over the value's bytes
  pub hands : Second text (filled v buffer) (found token.offset v) (bytes_of v)

-- the token, with the offset 0
abbrev pub moved : Token → Token
moved token = record { kind = token.kind; offset = 0; len = token.len }

-- the reader can read the token
pub record Readable (reader : Reader) (text : List ℕ) (token : Token) : Type 0 where
  -- the definitions give the token's own bytes a value, and no other
  pub value : Value
  pub reads : Reads reader token.kind (own text token) value
  pub one : (v : Value) → Reads reader token.kind (own text token) v → v ≡ value
  -- with each buffer that is no shorter than the token, the calls yield it
  pub there : (buffer : List ℕ) → token.len ≤ length buffer → Yields reader text token value buffer
  -- and they yield the same where the text is the token's own bytes and nothing else
  pub alone : (buffer : List ℕ) → token.len ≤ length buffer → Yields reader (own text token) (moved token) value buffer
  -- the answer is a refusal exactly where the name is empty (23, 24) or not UTF-8 (22), and stands at the token's
  -- offset: none is 1 to 4, 30, 31 or 32
  pub refuses : (r : Refusal) (p : ℕ)
      → (found token.offset value ≡ Refused r p)
      ↔ ((e : LexError) × (r ≡ Lexical e) × (p ≡ token.offset) × Misnamed reader (own text token) e)

-- ---- names

-- the name call yields the value v of a token whose name is the kind's
pub record YieldsName (n : NameKind) (text : List ℕ) (token : Token) (v : Value) (buffer : List ℕ) : Type 0 where
  pub answer : NameReading
  -- it answers as the reader of names does, and says whose name it is
  pub is : reading_of answer ≡ found token.offset v
  pub whose : Whose n answer
  pub answers : ReadsName text token buffer answer (filled v buffer)
  -- it has no other answer, and leaves no other buffer
  pub only : (a : NameReading) (b : List ℕ) → ReadsName text token buffer a b → (a ≡ answer) × (b ≡ filled v buffer)

-- with each buffer that is no shorter than the token the name call yields the value that the definitions give its own
-- bytes, in the text and where the text is these bytes alone
pub record NameRead (n : NameKind) (text : List ℕ) (token : Token) : Type 0 where
  pub there : {v : Value} → Reads Reader.name token.kind (own text token) v → (buffer : List ℕ)
      → token.len ≤ length buffer → YieldsName n text token v buffer
  pub alone : {v : Value} → Reads Reader.name token.kind (own text token) v → (buffer : List ℕ)
      → token.len ≤ length buffer → YieldsName n (own text token) (moved token) v buffer

-- ---- signs

-- the sign that the bytes of a number have: what stands before its digits, `inf` or `nan`. That of another float
-- belongs to its digits before the point (`kept` in `Values`)
pub data SignOf : TokenKind → List ℕ → Sign → Type 0 where
  of_integer : {i : IntegerKind} {sign : Sign} {w u p : List ℕ} → Split i.hex w sign u p [] []
      → SignOf (kind.Integer i) w sign
  of_inf : {n : Bool} {sign : Sign} {w u : List ℕ} → Signed sign u → w ≡ u ++ inf → SignOf (kind.Float (Inf n)) w sign
  of_nan : {n : Bool} {sign : Sign} {w u : List ℕ} → Signed sign u → w ≡ u ++ nan → SignOf (kind.Float (Nan n)) w sign
  of_payload : {n c : Bool} {sign : Sign} {w u s : List ℕ} → Signed sign u → Digits true s → w ≡ u ++ (nan_colon ++ s)
      → SignOf (kind.Float (NanVal n c)) w sign

-- the kinds that have a sign of their own
pub data HasSign : TokenKind → Type 0 where
  an_integer : {i : IntegerKind} → HasSign (kind.Integer i)
  an_inf : {n : Bool} → HasSign (kind.Float (Inf n))
  a_nan : {n : Bool} → HasSign (kind.Float (Nan n))
  a_payload : {n c : Bool} → HasSign (kind.Float (NanVal n c))

-- the sign call's answer, and its only one: of an integer the sign, of a float whether it is a minus
pub data Signs (text : List ℕ) (token : Token) (sign : Sign) : Type 0 where
  of_integer : {i : IntegerKind} → token.kind ≡ kind.Integer i → ReadsSign text token (integer.Sign sign)
      → ((a : IntegerSign) → ReadsSign text token a → a ≡ integer.Sign sign) → Signs text token sign
  of_float : {f : FloatKind} → token.kind ≡ kind.Float f → ReadsNegative text token (float.Negative (negative sign))
      → ((a : FloatSign) → ReadsNegative text token a → a ≡ float.Negative (negative sign)) → Signs text token sign

-- the sign of the token is the one that its bytes have, in the text and where the text is its own bytes alone
pub record SignRead (text : List ℕ) (token : Token) : Type 0 where
  pub sign : Sign
  pub has : SignOf token.kind (own text token) sign
  pub one : (s : Sign) → SignOf token.kind (own text token) s → s ≡ sign
  pub there : Signs text token sign
  pub alone : Signs (own text token) (moved token) sign

-- ---- words of integers

-- the value call for N bits answers the word of the token's own bytes, or 40 where they have none; where the text is
-- its own bytes alone too
pub record WordRead (N : ℕ) (text : List ℕ) (token : Token) : Type 0 where
  pub answer : IntegerValue
  pub is : Worded N (own text token) answer
  pub there : ReadsWord N text token answer
  pub alone : ReadsWord N (own text token) (moved token) answer

-- ---- texts

-- a text passes, with the report r and the list l afterwards
pub record Passes (σ : Settings) (text list : List ℕ) (r : Listed) (l : List ℕ) : Type 0 where
  -- it is divided end to end, in one way only, into as many tokens as were counted, and the list has their records
  pub whole : Whole σ text list r l
  -- each of these tokens, whose offset is the lengths before it, can be read by each reader that takes its kind
  pub readable : (us vs : List Piece) (t : Piece) → whole.tokens ≡ us ++ (t ∷ vs) → (reader : Reader)
      → Takes reader t.kind → Readable reader text (record { kind = t.kind; offset = lengths us; len = t.len })
  -- and of each that has a name the name call says it, and whose it is
  pub named : (us vs : List Piece) (t : Piece) → whole.tokens ≡ us ++ (t ∷ vs) → {n : NameKind} {x : ℕ}
      → Sigil n t.kind x → NameRead n text (record { kind = t.kind; offset = lengths us; len = t.len })
  -- and of each that has a sign the sign is read
  pub signed : (us vs : List Piece) (t : Piece) → whole.tokens ≡ us ++ (t ∷ vs) → HasSign t.kind
      → SignRead text (record { kind = t.kind; offset = lengths us; len = t.len })
  -- and of each integer the word of each width is
  pub valued : (us vs : List Piece) (t : Piece) → whole.tokens ≡ us ++ (t ∷ vs) → {i : IntegerKind}
      → t.kind ≡ kind.Integer i → (N : ℕ)
      → WordRead N text (record { kind = t.kind; offset = lengths us; len = t.len })
