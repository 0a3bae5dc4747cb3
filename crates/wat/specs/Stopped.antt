-- Why a listing stops: by itself, or by a refusal and its place.
use Rattle.std.specs.Prelude.{ℕ, Result, Ok, Err}
use Rattle.wat.specs.declared.{Refusal.Refusal, Stop.Stop, Refused.Refused as Reason}
use Rattle.wat.specs.declared.Stop.TheVariants as stop

abbrev pub Stopped : Type 0
Stopped = Result Stop Reason

abbrev pub End : Stopped
End = Ok stop.End

abbrev pub Budget : Stopped
Budget = Ok stop.Budget

abbrev pub Full : Stopped
Full = Ok stop.Full

abbrev pub Refused : Refusal → ℕ → Stopped
Refused r p = Err (record { refusal = r; place = p })
