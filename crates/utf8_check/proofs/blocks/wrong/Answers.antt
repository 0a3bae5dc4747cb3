-- A sum by bits is 0 only if each part is.
use Rattle.utf8_check.proofs.FollowingLaws.{follows_by}
use Rattle.utf8_check.proofs.blocks.wrong.Goals as goal

pub returns : goal.returns
returns c =
    let a = c.args in
    follows_by a.r a.q a.p a.b c.saturating_sub.result c.saturating_sub-2.result c.saturating_sub-3.result
    c.saturating_sub.ensures c.saturating_sub-2.ensures c.saturating_sub-3.ensures
    c.misplaced.result c.least.result c.saturating_sub-4.result c.greatest.result c.saturating_sub-5.result c.unused.result
    c.misplaced.ensures c.least.ensures c.saturating_sub-4.ensures c.greatest.ensures c.saturating_sub-5.ensures c.unused.ensures
