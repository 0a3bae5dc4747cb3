-- What a reader's first call answers, by short names: a refusal and its place, no value, or the part where the value is.
use Rattle.std.specs.Prelude.{ℕ, Option, Some, None, Result, Ok, Err}
use Rattle.wat.specs.declared.Refusal.{Refusal}
use Rattle.wat.specs.declared.Refused as why
use Rattle.wat_values.specs.declared.Part.{Part}
use Rattle.wat_values.specs.declared.Part.TheVariants as part

abbrev pub Reading : Type 0
Reading = Result (Option Part) why.Refused

abbrev pub Refused : Refusal → ℕ → Reading
Refused r p = Err (record { refusal = r; place = p })

abbrev pub Absent : Reading
Absent = Ok None

abbrev pub Text : ℕ → ℕ → Reading
Text start len = Ok (Some (part.Text start len))

abbrev pub Buffer : ℕ → ℕ → Reading
Buffer start len = Ok (Some (part.Buffer start len))
