-- Messages by an error's number and two values, by functions that compute. `proofs/` shows that they say what
-- `Messages` asks.
use Rattle.std.specs.Prelude.{ℕ, Bool, true, false, ◌&&◌, ◌||◌, not, List, [], ◌++◌, eqb, ltb, length, drop, Result, Ok, Err}
use Rattle.wat.specs.declared.Refusal.{Refusal}
use Rattle.wat.specs.declared.Refusal.TheVariants.{BufferTooShort, NoMessage}
use Rattle.wat.specs.{Bytes.bytes, Bytes.between, Chars.is_scalar, Chars.confusing}
use Rattle.messages.specs.Spelled.{hex, shown, lead}

-- the numbers of errors that have a message, those of the Rust; 15, `InvalidDigit`, it builds nowhere
unfoldable pub known : ℕ → Bool
known n = (between 10 24 n) && (not (eqb n 15))

-- it carries a value that is over 32 bits; the lengths of 22 may be
unfoldable pub wide : ℕ → ℕ → ℕ → Bool
wide n a b =
    (eqb n 16 && ltb 0xFFFFFFFF b) || ((between 11 14 n || eqb n 16 || eqb n 19 || eqb n 21) && ltb 0xFFFFFFFF a)

-- the characters that a message shows are scalar values, and a confusing one is one of the nine
unfoldable pub showable : ℕ → ℕ → ℕ → Bool
showable n a b =
    elim (between 11 14 n) [
      | true ↦ is_scalar a
      | false ↦
          elim (eqb n 16) [
            | true ↦ is_scalar a && is_scalar b
            | false ↦ elim (eqb n 21) [ true ↦ confusing a | false ↦ true ]
          ]
    ]

-- there is a message
unfoldable pub tellable : ℕ → ℕ → ℕ → Bool
tellable n a b = known n && showable n a b

-- what it says after the text that it begins with: a character and a quote, two characters, a number, or nothing
unfoldable pub rest : ℕ → ℕ → ℕ → List ℕ
rest n a b =
    elim (between 11 14 n || eqb n 21) [
      | true ↦ shown a ++ bytes "'"
      | false ↦
          elim (eqb n 16) [
            | true ↦ shown a ++ (bytes "' but found '" ++ (shown b ++ bytes "'"))
            | false ↦ elim (eqb n 19) [ true ↦ hex a | false ↦ [] ]
          ]
    ]

-- the whole of it
unfoldable pub message : ℕ → ℕ → ℕ → List ℕ
message n a b = lead n ++ rest n a b

-- a message put into a buffer: the call's answer, and the buffer afterwards
unfoldable pub fitted : List ℕ → List ℕ → Result ℕ Refusal × List ℕ
fitted m buffer =
    elim (ltb (length buffer) (length m)) [
      | true ↦ (Err BufferTooShort, buffer)
      | false ↦ (Ok (length m), m ++ drop (length m) buffer)
    ]

unfoldable pub answer : ℕ → ℕ → ℕ → List ℕ → Result ℕ Refusal × List ℕ
answer n a b buffer =
    elim (tellable n a b) [ true ↦ fitted (message n a b) buffer | false ↦ (Err NoMessage, buffer) ]
