-- What passes can be read, for callers from C: if `thallusweb_list` from 0 leaves 0 in out[0], each record of its list,
-- decoded to three words and handed to `thallusweb_read` with a reader for its kind, or to `thallusweb_name`, with a
-- buffer no shorter than the token, and that answer to `thallusweb_part`, gives the value of the definitions; and to
-- the sign calls its sign. The one refusal left is a name that is empty or not UTF-8; with every other name comes the
-- token's kind. The value calls of an integer give its word, or 40 where it is out of range. `PassesWords` says it; it
-- is proved as `passes_words`.
use Rattle.std.specs.Prelude.{ℕ, ◌≤◌, ◌<◌, ◌≡◌, ◌↔◌, List, [], ◌∷◌, ◌++◌, length, get_or, take, drop}
use Rattle.std.specs.Prelude.{Some, None, Ok, Err}
use Rattle.std.proofs.Math.Option.{some}
use Rattle.wat.specs.declared.{Sign.Sign, TokenKind.TokenKind, LexError.LexError, Settings.Settings}
use Rattle.wat.specs.declared.TokenKind.TheVariants as kind
use Rattle.wat.specs.declared.{IntegerKind.IntegerKind, FloatKind.FloatKind, Refusal.TheVariants.Lexical}
use Rattle.wat_values.specs.{Answered.Reading, IntegerValue.IntegerValue}
use Rattle.wat.specs.Cases.{flag, kind_number}
use Rattle.wat.specs.Numbers.{negative}
use Rattle.wat.specs.Division.{Piece, lengths, Divided}
use Rattle.wat.specs.Whole.{Division}
use Rattle.wat_laws.specs.Records.{kind_at, token_words}
use Rattle.wat_values.specs.Values.{Reader, Takes, Value, Reads}
use Rattle.wat_values.specs.Names.{Misnamed}
use Rattle.wat_values.specs.Reading.{found}
use Rattle.wat_values.specs.Integers.{Worded}
use Rattle.wat_values.specs.Readable.{bytes_of, filled, SignOf, HasSign}
use Rattle.c_words.specs.Words.{refused_words}
use Rattle.c_read_words.specs.Words.{reading_words, sign_word, integer_words}
use Rattle.c_spots.specs.Spots.{PartWords}
use Rattle.read_call.specs.ByNumber.{readers, nth}
use Rattle.thallusweb.specs.Promises.{ReadWords, NameWords, IntegerSignWords, IntegerWords, FloatSignWords}

-- the bytes of a token, by its words: its length of them from its offset on
abbrev pub own_bytes : List ℕ → List ℕ → List ℕ
own_bytes text w = take (get_or w 2 0) (drop (get_or w 1 0) text)

-- ---- values

-- the bytes that three words of `thallusweb_part` name: of the text (1), of the buffer (3), or none
pub data PartBytes (text buffer : List ℕ) : List ℕ → List ℕ → Type 0 where
  of_text : {start len : ℕ} → PartBytes text buffer (1 ∷ start ∷ len ∷ []) (take len (drop start text))
  of_buffer : {start len : ℕ} → PartBytes text buffer (3 ∷ start ∷ len ∷ []) (take len (drop start buffer))
  none : PartBytes text buffer (0 ∷ 0 ∷ 0 ∷ []) []

-- the words with which `thallusweb_read` answers that it found the value v of the token whose words are w
abbrev pub found_in : List ℕ → Value → List ℕ
found_in w v = reading_words (found (get_or w 1 0) v)

-- the number of the kind k, where an answer names a part; else 0
abbrev pub kind_for : TokenKind → Reading → ℕ
kind_for k (Err e) = 0
kind_for k (Ok None) = 0
kind_for k (Ok (Some p)) = kind_number k

-- the words with which `thallusweb_name` answers so, of a token of the kind k: the same five, and the kind's number, or
-- 0 where the name is refused
abbrev pub named_in : TokenKind → List ℕ → Value → List ℕ
named_in k w v = found_in w v ++ (kind_for k (found (get_or w 1 0) v) ∷ [])

-- two calls yield the value v of the token whose words are w; the first leaves the words `out`
pub record YieldsWords (call : List ℕ → List ℕ → Type 0) (out text w : List ℕ) (v : Value) (buffer : List ℕ) :
    Type 0 where
  -- the first call answers where the value is, and copies it where it is a copy
  pub answers : call out (filled v buffer)
  -- it leaves no other words, and no other buffer
  pub only : (a b : List ℕ) → call a b → (a ≡ out) × (b ≡ filled v buffer)
  -- the second call, given its first five words, leaves three words and no others, which name the value's bytes
  pub part : List ℕ
  pub parts : PartWords text (filled v buffer) (found_in w v) part
  pub only_part : (p : List ℕ) → PartWords text (filled v buffer) (found_in w v) p → p ≡ part
  pub bytes : PartBytes text (filled v buffer) part (bytes_of v)

-- the token of kind k whose words are w can be read by a call that, lent a buffer, leaves the words `out` of a value
pub record ReadableWords (call : List ℕ → List ℕ → List ℕ → Type 0) (out : Value → List ℕ) (reader : Reader)
    (k : TokenKind) (text w : List ℕ) : Type 0 where
  -- the definitions give the token's own bytes a value, and no other
  pub value : Value
  pub reads : Reads reader k (own_bytes text w) value
  pub one : (v : Value) → Reads reader k (own_bytes text w) v → v ≡ value
  -- with each buffer that is no shorter than the token, the calls yield it
  pub yields : (buffer : List ℕ) → get_or w 2 0 ≤ length buffer
      → YieldsWords (call buffer) (out value) text w value buffer
  -- the answer's first word is 2, a refusal, exactly where the name is empty (23, 24) or not UTF-8 (22), and then the
  -- words are those of that error at the token's offset
  pub refuses : (get_or (found_in w value) 0 0 ≡ 2)
      ↔ ((e : LexError) × Misnamed reader (own_bytes text w) e
      × (found_in w value ≡ refused_words (Lexical e) (get_or w 1 0)))

-- ---- signs

-- the sign call's words, and its only ones: 1 and the sign of an integer, 1 and whether a float's sign is a minus
pub data SignsWords (k : TokenKind) (text w : List ℕ) (sign : Sign) : Type 0 where
  of_integer : {i : IntegerKind} → k ≡ kind.Integer i → IntegerSignWords text w (1 ∷ sign_word sign ∷ 0 ∷ 0 ∷ 0 ∷ [])
      → ((a : List ℕ) → IntegerSignWords text w a → a ≡ 1 ∷ sign_word sign ∷ 0 ∷ 0 ∷ 0 ∷ []) → SignsWords k text w sign
  of_float : {f : FloatKind} → k ≡ kind.Float f
      → FloatSignWords text w (1 ∷ flag (negative sign) 1 ∷ 0 ∷ 0 ∷ 0 ∷ [])
      → ((a : List ℕ) → FloatSignWords text w a → a ≡ 1 ∷ flag (negative sign) 1 ∷ 0 ∷ 0 ∷ 0 ∷ [])
      → SignsWords k text w sign

-- the sign call for the token whose words are w answers the sign that its bytes have
pub record SignReadWords (k : TokenKind) (text w : List ℕ) : Type 0 where
  pub sign : Sign
  pub has : SignOf k (own_bytes text w) sign
  pub one : (s : Sign) → SignOf k (own_bytes text w) s → s ≡ sign
  pub signs : SignsWords k text w sign

-- ---- words of integers

-- the value call for N bits of the token whose words are w answers the word of its bytes, or 40 where they have none
pub record WordReadWords (N : ℕ) (text w : List ℕ) : Type 0 where
  pub answer : IntegerValue
  pub is : Worded N (own_bytes text w) answer
  pub words : IntegerWords N text w (integer_words answer)
  -- it leaves no other words
  pub only : (a : List ℕ) → IntegerWords N text w a → a ≡ integer_words answer

-- ---- texts

-- a text passes, with the words `out` and the list l of the listing call
pub record PassesWords (σ : Settings) (text out l : List ℕ) : Type 0 where
  -- it is divided end to end, in one way only, into as many tokens as out[5] says
  pub tokens : List Piece
  pub divided : Divided σ text tokens []
  pub division : Division σ text tokens
  pub counted : get_or out 5 0 ≡ length tokens
  -- the i-th record is the i-th of these tokens: its kind's number, the lengths before it, its own
  pub decoded : (i : ℕ) → i < get_or out 5 0 → (us vs : List Piece) × (t : Piece) × (tokens ≡ us ++ (t ∷ vs))
      × (length us ≡ i) × (token_words l i ≡ kind_number t.kind ∷ lengths us ∷ t.len ∷ [])
  -- so each record has the number of a kind
  pub kinds : (i : ℕ) → i < get_or out 5 0 → (k : TokenKind) × (kind_number k ≡ kind_at l i)
  -- each token can be read by each reader with a number that takes its kind
  pub readable : (i : ℕ) → i < get_or out 5 0 → (k : TokenKind) → kind_number k ≡ kind_at l i → (n : ℕ) (reader : Reader)
      → nth readers n ≡ some reader → Takes reader k
      → ReadableWords (ReadWords n text (token_words l i)) (found_in (token_words l i)) reader k text (token_words l i)
  -- and each that has a name by the name call, which says its kind
  pub named : (i : ℕ) → i < get_or out 5 0 → (k : TokenKind) → kind_number k ≡ kind_at l i → Takes Reader.name k
      → ReadableWords (NameWords text (token_words l i)) (named_in k (token_words l i)) Reader.name k text (token_words l i)
  -- and of each that has a sign the sign is read
  pub signed : (i : ℕ) → i < get_or out 5 0 → (k : TokenKind) → kind_number k ≡ kind_at l i → HasSign k
      → SignReadWords k text (token_words l i)
  -- and of each integer the word of each width is
  pub valued : (i : ℕ) → i < get_or out 5 0 → (k : IntegerKind) → kind_number (kind.Integer k) ≡ kind_at l i
      → (N : ℕ) → WordReadWords N text (token_words l i)
