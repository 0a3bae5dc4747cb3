-- If the number is 0, the bytes passed stand right.
use Rattle.std.proofs.Common.{◌≡◌, ◌+◌}
use Rattle.utf8_check.specs.Following.{Right}
use Rattle.utf8_check.proofs.blocks.wrong_in.Given as goal

abbrev pub invariant-loop-k : goal.invariant-loop-k
invariant-loop-k l = l.all ≡ 0 → Right l.s l.from (l.from + l.k)
