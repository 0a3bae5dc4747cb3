use Rattle.std.proofs.Common.{◌-◌, length}
use Rattle.lex_strings.proofs.CopyLaws.{Written}
use Rattle.lex_strings.proofs.decode_into.Given as goal

-- the buffer begins with what has been passed
abbrev pub invariant-loop-b : goal.invariant-loop-b
invariant-loop-b l = Written l.s l.at l.i l.to l.fn.dst l.dst

abbrev pub decreases-loop-b : goal.decreases-loop-b
decreases-loop-b l = length l.s - l.i
