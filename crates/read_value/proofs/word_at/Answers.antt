use Rattle.std.proofs.Common.{arith}
use Rattle.read_value.proofs.WordLaws.{digits_left, too_great, worded}
use Rattle.read_value.proofs.word_at.Goals as goal

pub returns-in_err-n : goal.returns-in_err-n
returns-in_err-n c = λ N ones.
    rw c.from_residual.ensures
    (too_great (digits_left c.requires c.past_prefix-from.ensures.leaves).1 c.args.max ones
    (omega (arith, c.in_err-n.ensures)))

pub returns : goal.returns
returns c = λ N ones.
    worded (digits_left c.requires c.past_prefix-from.ensures.leaves).1 c.args.max ones c.in_ok-n.ensures.0
    (omega (arith, c.in_ok-n.ensures.1))
    c.word_of.ensures
