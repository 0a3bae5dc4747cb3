-- What `wat-tokens` prints of a text (docs/RULES.md, 15), under the settings of a new lexer.
use Rattle.std.specs.Prelude.{ℕ, ◌+◌, ◌≤◌, ◌<◌, List, [], ◌++◌, length}
use Rattle.wat.specs.declared.{Fault.Fault, Refusal.Refusal}
use Rattle.wat.specs.Answers as answer
use Rattle.wat.specs.{Bytes.bytes, Settings.plain, Cases.error_number, Cases.number, Calls.Stands, Calls.Rejected}
use Rattle.wat.specs.Lexing.{Lexed}
use Rattle.wat.specs.Division.{Piece, lengths, Divided}
use Rattle.tokens_lines.specs.Lines.{header, lines, last_line}

-- the longest input
abbrev pub longest : ℕ
longest = 32_768

-- all that is printed
pub data Output (text : List ℕ) : List ℕ → Type 0 where
  too_long : longest < length text → Output text (header ++ bytes "too-long\n")
  rejected : {r : Refusal} {p : ℕ} → length text ≤ longest → Rejected text 0 r p
      → Output text (header ++ last_line (bytes "error ") (number r).0 p)
  whole : {ts : List Piece} → length text ≤ longest → Stands text 0 → Divided plain text ts []
      → Output text (header ++ (lines 0 ts ++ last_line (bytes "end ") (length text) (length ts)))
  fault : {ts : List Piece} {rest : List ℕ} {f : Fault} → length text ≤ longest → Stands text 0
      → Divided plain text ts rest → Lexed plain rest (answer.Fault f)
      → Output text
      (header ++ (lines 0 ts ++ last_line (bytes "error ") (error_number f.error).0 (lengths ts + f.place)))
