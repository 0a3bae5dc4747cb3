-- What is asked of a byte or a character beside wat's tests.
use Rattle.std.specs.Prelude.{ℕ, Bool, ◌&&◌, ◌||◌, not, eqb}
use Rattle.wat.specs.Bytes.{byte, between}

-- an ASCII character that stands in a string for itself: not refused by 12, no `"` and no `\`
unfoldable pub raw : ℕ → Bool
raw b = between 0x20 0x7E b && (not (eqb b (byte "\"")) && not (eqb b (byte "\\")))

-- the three bytes of a confusing character
unfoldable pub confusing_bytes : ℕ → ℕ → ℕ → Bool
confusing_bytes b c d =
    eqb b 0xE2
    && ((eqb c 0x80 && (between 0xAA 0xAE d && not (eqb d 0xAC)))
    || (eqb c 0x81 && (between 0xA6 0xA9 d || eqb d 0xAC)))
