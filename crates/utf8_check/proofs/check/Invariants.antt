-- The check may go on from the place.
use Rattle.std.proofs.Common.{◌-◌, length}
use Rattle.utf8_check.specs.Following.{Resumes}
use Rattle.utf8_check.proofs.check.Given as goal

abbrev pub invariant-loop-i : goal.invariant-loop-i
invariant-loop-i l = Resumes l.s l.i

abbrev pub decreases-loop-i : goal.decreases-loop-i
decreases-loop-i l = length l.s - l.i
