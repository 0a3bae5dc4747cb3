use Rattle.lex_comments.proofs.BlockLaws.{inside_open}
use Rattle.lex_comments.proofs.block_end.Goals as goal

pub loop-k-preserved-then-s-k-eq40 : goal.loop-k-preserved-then-s-k-eq40
loop-k-preserved-then-s-k-eq40 c =
    inside_open c.args.s.now c.args.at c.loop-k.i c.in_ok-k.k c.loop-k.level c.in_ok-k.ensures c.loop-k.invariant c.if-s-k-eq40.true
