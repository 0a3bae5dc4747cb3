-- What the sign call answers of an integer: a refusal and its place, or its sign.
use Rattle.std.specs.Prelude.{ℕ, Result, Ok, Err}
use Rattle.wat.specs.declared.Sign as signs
use Rattle.wat.specs.declared.{Refusal.Refusal, Refused.Refused as Reason}

abbrev pub IntegerSign : Type 0
IntegerSign = Result signs.Sign Reason

abbrev pub Refused : Refusal → ℕ → IntegerSign
Refused r p = Err (record { refusal = r; place = p })

abbrev pub Sign : signs.Sign → IntegerSign
Sign s = Ok s
