-- The message of an error: the Rust's `Display` of `LexError` (docs/RULES.md, 13).
use Rattle.std.specs.Prelude.{ℕ, ◌+◌, ◌*◌, ◌≤◌, ◌<◌, ◌≡◌, true, false, length, drop, get_or, Result, Ok, Err}
use mathlib.Core.List.{List, [], ◌∷◌, ◌++◌, Memᴰ}
use Rattle.wat.specs.declared.{LexError.LexError, Refusal.Refusal}
use Rattle.wat.specs.declared.LexError.TheVariants.{DanglingBlockComment, Unexpected}
use Rattle.wat.specs.declared.LexError.TheVariants.{InvalidStringElement, InvalidStringEscape}
use Rattle.wat.specs.declared.LexError.TheVariants.{InvalidHexDigit, Expected, UnexpectedEof}
use Rattle.wat.specs.declared.LexError.TheVariants.{NumberTooBig, InvalidUnicodeValue}
use Rattle.wat.specs.declared.LexError.TheVariants.{LoneUnderscore, ConfusingUnicode}
use Rattle.wat.specs.declared.LexError.TheVariants.{InvalidUtf8Id, EmptyId, EmptyAnnotation}
use Rattle.wat.specs.declared.Refusal.TheVariants.{Lexical, BufferTooShort, NoMessage}
use Rattle.wat.specs.{Bytes.bytes, Bytes.byte, Bytes.between, Chars.is_scalar, Chars.confusing}

abbrev pub figure : ℕ → ℕ
figure n = get_or (bytes "0123456789abcdef") n 0

-- a number in lower-case hexadecimal, with no zero before it
pub data Hexed : ℕ → List ℕ → Type 0 where
  one : {d : ℕ} → d < 16 → Hexed d (figure d ∷ [])
  more : {n d : ℕ} {s : List ℕ} → 0 < n → Hexed n s → d < 16 → Hexed (n * 16 + d) (s ++ (figure d ∷ []))

-- \t \r \n \\ \' : the character, and its letter
unfoldable pub named : List (ℕ × ℕ)
named = (0x09, byte "t") ∷ (0x0D, byte "r") ∷ (0x0A, byte "n") ∷ (0x5C, byte "\\") ∷ (0x27, byte "'") ∷ []

-- a character as a message shows it
pub data Shown : ℕ → List ℕ → Type 0 where
  letter : {c l : ℕ} → Memᴰ (c, l) named → Shown c (byte "\\" ∷ l ∷ [])
  itself : {c : ℕ} → between 0x20 0x7E c ≡ true → ((l : ℕ) → Memᴰ (c, l) named → ⊥) → Shown c (c ∷ [])
  number : {c : ℕ} {s : List ℕ} → is_scalar c ≡ true → between 0x20 0x7E c ≡ false
      → ((l : ℕ) → Memᴰ (c, l) named → ⊥) → Hexed c s → Shown c (bytes "\\u{" ++ (s ++ bytes "}"))

-- the message of an error. It has none if its character is no scalar value, or a confusing one that is none of the nine;
-- and 25 has none, which the Rust does not know
pub data Displays : LexError → List ℕ → Type 0 where
  dangling : Displays DanglingBlockComment (bytes "unterminated block comment")
  unexpected : {c : ℕ} {s : List ℕ} → Shown c s
      → Displays (Unexpected c) (bytes "unexpected character '" ++ (s ++ bytes "'"))
  element : {c : ℕ} {s : List ℕ} → Shown c s
      → Displays (InvalidStringElement c) (bytes "invalid character in string '" ++ (s ++ bytes "'"))
  escape : {c : ℕ} {s : List ℕ} → Shown c s
      → Displays (InvalidStringEscape c) (bytes "invalid string escape '" ++ (s ++ bytes "'"))
  digit : {c : ℕ} {s : List ℕ} → Shown c s
      → Displays (InvalidHexDigit c) (bytes "invalid hex digit '" ++ (s ++ bytes "'"))
  expected : {w c : ℕ} {s t : List ℕ} → Shown w s → Shown c t
      → Displays (Expected w c) (bytes "expected '" ++ (s ++ (bytes "' but found '" ++ (t ++ bytes "'"))))
  end : Displays UnexpectedEof (bytes "unexpected end-of-file")
  big : Displays NumberTooBig (bytes "number is too big to parse")
  value : {n : ℕ} {s : List ℕ} → Hexed n s
      → Displays (InvalidUnicodeValue n) (bytes "invalid unicode scalar value 0x" ++ s)
  underscore : Displays LoneUnderscore (bytes "bare underscore in numeric literal")
  hidden : {c : ℕ} {s : List ℕ} → confusing c ≡ true → Shown c s
      → Displays (ConfusingUnicode c) (bytes "likely-confusing unicode character found '" ++ (s ++ bytes "'"))
  id : {v e : ℕ} → Displays (InvalidUtf8Id v e) (bytes "malformed UTF-8 encoding of string-based id")
  empty_id : Displays EmptyId (bytes "empty identifier")
  empty_annotation : Displays EmptyAnnotation (bytes "empty annotation id")

-- the call: its answer, and the buffer afterwards. 34 where there is no message, then 32
pub data Tells (r : Refusal) (buffer : List ℕ) : Result ℕ Refusal → List ℕ → Type 0 where
  none : ((e : LexError) (m : List ℕ) → r ≡ Lexical e → Displays e m → ⊥) → Tells r buffer (Err NoMessage) buffer
  too_short : {e : LexError} {m : List ℕ} → r ≡ Lexical e → Displays e m → length buffer < length m
      → Tells r buffer (Err BufferTooShort) buffer
  told : {e : LexError} {m : List ℕ} → r ≡ Lexical e → Displays e m → length m ≤ length buffer
      → Tells r buffer (Ok (length m)) (m ++ drop (length m) buffer)
