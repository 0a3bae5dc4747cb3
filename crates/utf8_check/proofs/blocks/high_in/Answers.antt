-- One byte more is ASCII.
use Rattle.std.proofs.Common.{◌+◌, ◌-◌, ◌<◌, get_or, drop, ◌∙◌, get_or-take, get_or-drop, arith}
use Rattle.utf8_check.proofs.FollowingLaws.{each_more}
use Rattle.utf8_check.proofs.blocks.high_in.Goals as goal

pub loop-b-preserved : goal.loop-b-preserved
loop-b-preserved c =
    let a = c.args in
    let l = c.loop-b in
    let here =
    get_or-take (a.from + a.n - a.from) (drop a.from a.s.now) l.b-index 0 (omega arith) ∙ get_or-drop a.from a.s.now l.b-index 0 in
    λ e m h k.
    each_more (λ m. get_or a.s.now m 0 < 0x80) a.from (a.from + l.b-index) l.all c.saturating_sub-all.result l.invariant
    (λ z. omega (arith, here, c.saturating_sub-all.ensures)) e m h (omega arith)
