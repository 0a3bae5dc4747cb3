use Rattle.std.proofs.Common.{◌≡◌, ◌≤◌}
use Rattle.std.proofs.Math.Seq.{slice}
use Rattle.wat_values.specs.Integers.{radix}
use Rattle.wat_values.specs.IntegerModel.{amount}
use Rattle.read_value.proofs.number.Given as goal

-- the number so far is no greater than the limit, and with the digits from `i` on behind it is the number of all of them
abbrev pub invariant-loop-i : goal.invariant-loop-i
invariant-loop-i l =
    (l.from ≤ l.i) × (l.i ≤ l.end) × (l.n ≤ l.limit)
    × (amount l.radix l.n (slice l.i l.end l.text) ≡ amount (radix l.hex) 0 (slice l.from l.end l.text))
