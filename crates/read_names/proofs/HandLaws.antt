-- A value handed over, by where its bytes are. Assumes nothing.
use Prim.Native.Nat.{ℕ, ◌+◌, ◌≤◌, ◌<◌}
use mathlib.Core.Path.{◌≡◌}
use mathlib.Core.Bool.{Bool, true, false}
use mathlib.Core.List.{List, [], ◌++◌}
use native.Mathlib.Omega.{arith}
use lib.ListN.{length, drop}
use Rattle.wat.specs.declared.LexError.{LexError}
use Rattle.wat.specs.declared.Refusal.TheVariants.{Lexical, BufferTooShort}
use Rattle.wat_values.specs.Answered.{Refused, Text, Buffer}
use Rattle.wat_values.specs.Values.{part, refused, copy_or_part, copied}
use Rattle.wat_values.specs.Reading.{no_place, Handed}

module _ (offset : ℕ) (buffer : List ℕ) where
  pub handed_part : {n start len : ℕ} {v : List ℕ} → start ≡ offset + n → len ≡ length v
      → Handed offset (part n v) buffer (Text start len) buffer
  handed_part s l = rw (s, l) (Handed.fits (omega arith))

  -- an error for which nothing was copied
  pub handed_error : {e : LexError} → Handed offset (refused [] e) buffer (Refused (Lexical e) offset) buffer
  handed_error = Handed.fits (omega arith)

  module _ {c : Bool} (v : List ℕ) where
    -- a value that is left where it is, or copied
    pub handed_left : (n : ℕ) {start len : ℕ} → c ≡ false → start ≡ offset + n → len ≡ length v
        → Handed offset (copy_or_part c n v) buffer (Text start len) buffer
    unfolding copy_or_part
    handed_left n e s l = rw e (handed_part s l)

    pub handed_short : (n : ℕ) → c ≡ true → length buffer < length v
        → Handed offset (copy_or_part c n v) buffer (Refused BufferTooShort no_place) buffer
    unfolding copy_or_part
    handed_short n e h = rw e (Handed.too_short h)

    pub handed_copy : (n : ℕ) {len : ℕ} → c ≡ true → length v ≤ length buffer → len ≡ length v
        → Handed offset (copy_or_part c n v) buffer (Buffer 0 len) (v ++ drop (length v) buffer)
    unfolding copy_or_part
    handed_copy n e h l = rw (e, l) (Handed.fits h)

    -- the same of a value that is refused after it was copied
    pub wrong_short : {x : LexError} → c ≡ true → length buffer < length v
        → Handed offset (refused (copied c v) x) buffer (Refused BufferTooShort no_place) buffer
    unfolding copied
    wrong_short e h = rw e (Handed.too_short h)

    pub wrong_copy : {x : LexError} → c ≡ true → length v ≤ length buffer
        → Handed offset (refused (copied c v) x) buffer (Refused (Lexical x) offset) (v ++ drop (length v) buffer)
    unfolding copied
    wrong_copy e h = rw e (Handed.fits h)
