-- Past ASCII bytes the check may go on.
use Rattle.std.proofs.Common.{◌+◌, ◌-◌, length, refl, arith}
use Rattle.utf8_check.proofs.ResumeLaws.{past_low}
use Rattle.utf8_check.proofs.blocks.ascii_to.Goals as goal

pub loop-i-preserved : goal.loop-i-preserved
loop-i-preserved c =
    let i = c.loop-i.i in
    past_low c.args.s.now i 16 (i + 16) refl (omega arith) (c.high_in.ensures (omega arith)) c.loop-i.invariant

pub returns-then-high_in-eq0 : goal.returns-then-high_in-eq0
returns-then-high_in-eq0 c =
    let s = c.args.s.now in
    let i = c.loop-i.i in
    let low = c.high_in-2.ensures (omega arith) in
    past_low s i (length s - i) (length s) (omega arith) (omega arith) (λ m h k. low m (omega arith) (omega arith)) c.loop-i.invariant
