-- What the sign call answers of a float: a refusal and its place, absent, or whether it is negative.
use Rattle.std.specs.Prelude.{ℕ, Bool, Option, Some, None, Result, Ok, Err}
use Rattle.wat.specs.declared.{Refusal.Refusal, Refused.Refused as Reason}

abbrev pub FloatSign : Type 0
FloatSign = Result (Option Bool) Reason

abbrev pub Refused : Refusal → ℕ → FloatSign
Refused r p = Err (record { refusal = r; place = p })

abbrev pub Absent : FloatSign
Absent = Ok None

abbrev pub Negative : Bool → FloatSign
Negative n = Ok (Some n)
