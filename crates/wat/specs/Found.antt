-- What a call for one token answers: nothing (the end, or no annotation), a token, or a refusal and its place.
use Rattle.std.specs.Prelude.{ℕ, Option, Some, None, Result, Ok, Err}
use Rattle.wat.specs.declared.{Refusal.Refusal, Token.Token as Lexeme, Refused.Refused as Reason}

abbrev pub Found : Type 0
Found = Result (Option Lexeme) Reason

abbrev pub Nothing : Found
Nothing = Ok None

abbrev pub Token : Lexeme → Found
Token t = Ok (Some t)

abbrev pub Refused : Refusal → ℕ → Found
Refused r p = Err (record { refusal = r; place = p })
