-- What `decode` answers: the character at a place of a text.
use Rattle.std.specs.Prelude.{◌≡◌, ℕ, ◌+◌, ◌<◌, ◌≤◌, Option, Some, None, List, length, take, drop}
use Rattle.wat.specs.Utf8.{Char, scalar}
use Rattle.wat.specs.StringModel.{char, nothing, peek}
use Rattle.utf8_chars.specs.declared.Char as declared

-- the first n bytes of what is left from a place are a character, and its scalar value is v
pub record Character (s : List ℕ) (at v n : ℕ) : Type 0 where
  pub peeked : peek (drop at s) ≡ char (take n (drop at s)) (drop (at + n) s)
  pub is : Char (take n (drop at s))
  pub value : v ≡ scalar (take n (drop at s))
  pub long : length (take n (drop at s)) ≡ n
  pub some : 1 ≤ n
  pub few : n ≤ 4
  pub fits : at + n ≤ length s
  pub small : v < 0x110000

abbrev pub Decodes : List ℕ → ℕ → Option declared.Char → Type 0
Decodes s at (Some c) = Character s at c.value c.len
Decodes s at None = peek (drop at s) ≡ nothing
