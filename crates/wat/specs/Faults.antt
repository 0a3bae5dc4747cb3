-- An error, its place and the position afterwards: made, and counted from further ahead.
use Rattle.std.specs.Prelude.{ℕ, ◌+◌}
use Rattle.wat.specs.declared.{LexError.LexError, Fault.Fault}

abbrev pub fault : LexError → ℕ → ℕ → Fault
fault e place after = record { error = e; place = place; after = after }

-- n bytes stand before
abbrev pub shift : ℕ → Fault → Fault
shift n f = record { error = f.error; place = n + f.place; after = n + f.after }
