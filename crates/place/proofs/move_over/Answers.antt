-- After each byte the counter is where the model is.
use Rattle.std.proofs.Common.{arith}
use Rattle.place.proofs.WalkLaws.{walked_on, walked_full, walked_all}
use Rattle.place.proofs.move_over.Goals as goal

pub returns-in_err-at : goal.returns-in_err-at
returns-in_err-at c =
    rw c.from_residual.ensures (walked_full c.loop-x.invariant (omega arith) c.over_byte.ensures c.in_err-at.was)

pub loop-x-preserved : goal.loop-x-preserved
loop-x-preserved c = walked_on c.loop-x.invariant (omega arith) c.over_byte.ensures c.in_ok-at.was

pub returns : goal.returns
returns c = walked_all c.loop-x.invariant (omega arith)
