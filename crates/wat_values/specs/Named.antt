-- What the reader of names answers, by short names: a refusal and its place, or whose name it is, and where it is.
use Rattle.std.specs.Prelude.{ℕ, Result, Ok, Err}
use Rattle.wat.specs.declared.Refusal.{Refusal}
use Rattle.wat.specs.declared.Refused as why
use Rattle.wat_values.specs.declared.{NameKind.NameKind, Name.Name}
use Rattle.wat_values.specs.declared.Part.TheVariants as part

abbrev pub NameReading : Type 0
NameReading = Result Name why.Refused

abbrev pub Refused : Refusal → ℕ → NameReading
Refused r p = Err (record { refusal = r; place = p })

abbrev pub Text : NameKind → ℕ → ℕ → NameReading
Text n start len = Ok (record { kind = n; part = part.Text start len })

abbrev pub Buffer : NameKind → ℕ → ℕ → NameReading
Buffer n start len = Ok (record { kind = n; part = part.Buffer start len })
