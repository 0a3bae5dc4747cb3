use Rattle.std.proofs.Common.{length, ◌-◌}
use Rattle.lex_escapes.proofs.NumberLaws.{Run}
use Rattle.lex_escapes.proofs.unicode.hexnum.Given as goal

-- from here on the model counts what it counts from the start
abbrev pub invariant-loop-i : goal.invariant-loop-i
invariant-loop-i l = Run l.settings l.s l.at l.first l.i l.value l.under

abbrev pub decreases-loop-i : goal.decreases-loop-i
decreases-loop-i l = length l.s - l.i
