-- What is handed over of a string at a place, and of a name after a token's first byte.
use Rattle.std.specs.Prelude.{ℕ, ◌+◌, ◌-◌, ◌≤◌, ◌<◌, ◌≡◌, true, false, List, ◌∷◌, ◌++◌, length, take, drop}
use Rattle.wat.specs.declared.Refusal.TheVariants.{BufferTooShort}
use Rattle.wat_values.specs.declared.NameKind.{NameKind}
use Rattle.wat_values.specs.{Answered.Reading, Named.NameReading}
use Rattle.wat_values.specs.Answered.{Refused, Text, Buffer}
use Rattle.wat.specs.Bytes.{byte, has}
use Rattle.wat.specs.Settings.{lenient}
use Rattle.wat.specs.Strings.{Str}
use Rattle.wat_values.specs.Values.{Value, Name}
use Rattle.wat_values.specs.Reading.{no_place, Handed, reading_of, Whose}

-- a string of `len` bytes stands at a place
pub record Quoted (text : List ℕ) (at len : ℕ) : Type 0 where
  pub fits : at + len ≤ length text
  pub value : List ℕ
  pub is : Str lenient (take len (drop at text)) value

-- of a string w at a place: the value is between the quotes, or is copied, or the buffer is shorter than the copy
pub data Quotes (w : List ℕ) (at : ℕ) (buffer : List ℕ) : Reading → List ℕ → Type 0 where
  plain : {v : List ℕ} → Str lenient w v → has (byte "\\") w ≡ false
      → Quotes w at buffer (Text (at + 1) (length v)) buffer
  too_short : {v : List ℕ} → Str lenient w v → has (byte "\\") w ≡ true → length buffer < length v
      → Quotes w at buffer (Refused BufferTooShort no_place) buffer
  copied : {v : List ℕ} → Str lenient w v → has (byte "\\") w ≡ true → length v ≤ length buffer
      → Quotes w at buffer (Buffer 0 (length v)) (v ++ drop (length v) buffer)

-- the bytes of a token after its first
abbrev pub tail : List ℕ → ℕ → ℕ → List ℕ
tail text offset len = take (len - 1) (drop (offset + 1) text)

-- a token of `len` bytes lies in the text, and its tail is a name, perhaps one that is refused
pub record Sigiled (k : NameKind) (text : List ℕ) (offset len : ℕ) : Type 0 where
  pub fits : offset + len ≤ length text
  pub sigil : ℕ
  pub is : take len (drop offset text) ≡ sigil ∷ tail text offset len
  pub value : Value
  pub named : Name k (tail text offset len) value

-- the name w, after the first byte of a token at an offset, handed over, with whose name it is
pub record NameHanded (k : NameKind) (w : List ℕ) (offset : ℕ) (buffer : List ℕ) (r : NameReading) (after : List ℕ) :
    Type 0 where
  pub value : Value
  pub is : Name k w value
  pub handed : Handed offset value buffer (reading_of r) after
  pub whose : Whose k r
