-- The front of a buffer, and the room that it has.
use Rattle.std.specs.Prelude.{ℕ, ◌+◌, ◌*◌, ◌≡◌, List, length, take}
use Rattle.tokens_lines.specs.Room.{longest_line}
use Rattle.tokens_output.specs.Output.{longest}

-- what every output fits in: a line for each byte, since no token is empty; the header; the last line
abbrev pub room : ℕ
room = longest_line * (longest + 2)

-- v stands at the front, up to `end`
pub record Front (out v : List ℕ) (end : ℕ) : Type 0 where
  pub ends : end ≡ length v
  pub is : take end out ≡ v
