-- What folding a form answers: the position past it, a refusal and its place, or the place of 41 or 42.
use Rattle.std.specs.Prelude.{ℕ, Result, Ok, Err}
use Rattle.wat.specs.declared.Refusal.{Refusal}
use Rattle.wat_forms.specs.declared.FoldError.{FoldError}
use Rattle.wat_forms.specs.declared.FoldError.TheVariants as error

abbrev pub Folded : Type 0
Folded = Result ℕ FoldError

abbrev pub Past : ℕ → Folded
Past at = Ok at

abbrev pub Refused : Refusal → ℕ → Folded
Refused r p = Err (error.Refused (record { refusal = r; place = p }))

abbrev pub TooDeep : ℕ → Folded
TooDeep p = Err (error.TooDeep p)

abbrev pub Unclosed : ℕ → Folded
Unclosed p = Err (error.Unclosed p)
