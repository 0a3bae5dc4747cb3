-- Each byte up to the third after the place stands right.
use Rattle.std.proofs.Common.{◌+◌, ◌-◌, ◌≤◌, length}
use Rattle.utf8_check.specs.Following.{Right}
use Rattle.utf8_check.proofs.blocks.right_to.Given as goal

abbrev pub invariant-loop-i : goal.invariant-loop-i
invariant-loop-i l = (l.i + 3 ≤ length l.s) × Right l.s 0 l.i

abbrev pub decreases-loop-i : goal.decreases-loop-i
decreases-loop-i l = length l.s - l.i
