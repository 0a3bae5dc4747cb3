use Rattle.std.proofs.Common.{◌≤◌}
use Rattle.read_copies.proofs.CopyLaws.{Written}
use Rattle.read_copies.proofs.bare_into.Given as goal

-- what is bare of the bytes up to i stands in the buffer up to n
abbrev pub invariant-loop-i : goal.invariant-loop-i
invariant-loop-i l = (l.i ≤ l.to) × Written l.text l.from l.to l.i l.at l.n l.fn.buffer l.buffer
