-- If the number is 0, the bytes passed are ASCII.
use Rattle.std.proofs.Common.{◌≡◌, ◌+◌}
use Rattle.utf8_check.specs.Following.{Low}
use Rattle.utf8_check.proofs.blocks.high_in.Given as goal

abbrev pub invariant-loop-b : goal.invariant-loop-b
invariant-loop-b l = l.all ≡ 0 → Low l.s l.from (l.from + l.b-index)
