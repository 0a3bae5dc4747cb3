-- How long the parts of a line are at most, and so the room that a line takes in a buffer.
use Rattle.std.specs.Prelude.{ℕ, ◌+◌, length}
use Rattle.wat.specs.Bytes.{bytes}
use Rattle.tokens_spelt.specs.Details.{longest_name, longest_detail}

-- a number of 64 bits has at most so many figures
abbrev pub most_figures : ℕ
most_figures = 20

-- the numbers below this one are small: they have at most five figures. Every offset and length in an input of
-- `wat-tokens` is small
abbrev pub small : ℕ
small = 100_000

-- a small number, and the byte after it
abbrev pub longest_small : ℕ
longest_small = 5 + 1

-- a line: name, offset, length, detail and the line's end. The last line is no longer
abbrev pub longest_line : ℕ
longest_line = longest_name + longest_small + longest_small + longest_detail + length (bytes "\n")
