-- 64 bytes more stand right.
use Rattle.std.proofs.Common.{◌+◌, arith}
use Rattle.utf8_check.proofs.FollowingLaws.{right_join}
use Rattle.utf8_check.proofs.blocks.right_to.Goals as goal

pub loop-i-preserved : goal.loop-i-preserved
loop-i-preserved c =
    let l = c.loop-i in
    (omega arith, right_join c.args.s.now 0 l.i l.i (l.i + 64) (omega arith) l.invariant.1 (c.wrong_in.ensures (omega arith)))
