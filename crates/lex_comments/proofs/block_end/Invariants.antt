use Rattle.std.proofs.Common.{◌-◌, length}
use Rattle.lex_comments.proofs.BlockLaws.{Inside}
use Rattle.lex_comments.proofs.block_end.Given as goal

-- from each place that is reached the comment ends where it ends from its start
abbrev pub invariant-loop-k : goal.invariant-loop-k
invariant-loop-k l = Inside l.s l.at l.i l.level

abbrev pub decreases-loop-k : goal.decreases-loop-k
decreases-loop-k l = length l.s - l.i
