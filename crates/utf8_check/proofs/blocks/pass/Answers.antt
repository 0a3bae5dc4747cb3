-- The first three bytes stand right, and then the blocks; of a short text, ASCII.
use Rattle.std.proofs.Common.{arith}
use Rattle.utf8_check.proofs.FollowingLaws.{begins_by_lem}
use Rattle.utf8_check.proofs.blocks.pass.Goals as goal

pub start_before-requires : goal.start_before-requires
start_before-requires c =
    let begins = begins_by_lem _ _ _ _ _ _ c.wrong.ensures c.wrong-2.ensures c.wrong-3.ensures (omega arith) in
    (c.right_to.ensures.0, begins, c.right_to.ensures.1)
