-- What a value call answers of an integer: a refusal and its place; out of range, 40; or its word of so many bits.
use Rattle.std.specs.Prelude.{ℕ, Option, Some, None, Result, Ok, Err}
use Rattle.wat.specs.declared.{Refusal.Refusal, Refused.Refused as Reason}

abbrev pub IntegerValue : Type 0
IntegerValue = Result (Option ℕ) Reason

abbrev pub Refused : Refusal → ℕ → IntegerValue
Refused r p = Err (record { refusal = r; place = p })

abbrev pub OutOfRange : IntegerValue
OutOfRange = Ok None

abbrev pub Word : ℕ → IntegerValue
Word v = Ok (Some v)
