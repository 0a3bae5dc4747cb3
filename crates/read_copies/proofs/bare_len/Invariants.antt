use Rattle.std.proofs.Common.{◌≡◌, ◌+◌, ◌-◌, ◌≤◌, length}
use Rattle.std.proofs.Math.Seq.{slice}
use Rattle.wat_values.specs.Values.{bare}
use Rattle.read_copies.proofs.bare_len.Given as goal

-- what is counted, and what is bare of the bytes from i on, are as many as all that is bare
abbrev pub invariant-loop-i : goal.invariant-loop-i
invariant-loop-i l =
    (l.from ≤ l.i) × (l.i ≤ l.to) × (l.n ≤ l.i - l.from)
    × (l.n + length (bare (slice l.i l.to l.text)) ≡ length (bare (slice l.from l.to l.text)))
