-- What is at the front of what is left of a text, by short names: the end, a token of so many bytes, or a fault.
use Rattle.std.specs.Prelude.{ℕ, Option, Some, None, Result, Ok, Err}
use Rattle.wat.specs.declared.{TokenKind.TokenKind, Lexeme.Lexeme}
use Rattle.wat.specs.declared.Fault as faults

abbrev pub Answer : Type 0
Answer = Result (Option Lexeme) faults.Fault

abbrev pub End : Answer
End = Ok None

abbrev pub Token : TokenKind → ℕ → Answer
Token k n = Ok (Some (record { kind = k; len = n }))

abbrev pub Fault : faults.Fault → Answer
Fault f = Err f
