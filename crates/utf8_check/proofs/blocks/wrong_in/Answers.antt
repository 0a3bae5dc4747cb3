-- One byte more stands right.
use Rattle.std.proofs.Common.{◌+◌, get_or, arith}
use Rattle.utf8_check.specs.Following.{Follows}
use Rattle.utf8_check.proofs.FollowingLaws.{each_more}
use Rattle.utf8_check.proofs.blocks.wrong_in.Goals as goal

pub loop-k-preserved : goal.loop-k-preserved
loop-k-preserved c =
    let s = c.args.s.now in
    let from = c.args.from in
    let l = c.loop-k in
    λ e m h k.
    each_more (λ m. Follows (get_or s m 0) (get_or s (m + 1) 0) (get_or s (m + 2) 0) (get_or s (m + 3) 0)) from (from + l.k) l.all
    c.wrong-all.result l.invariant c.wrong-all.ensures e m h (omega arith)
