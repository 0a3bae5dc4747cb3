use Rattle.std.proofs.Common.{◌-◌, length}
use Rattle.lex_strings.proofs.PassLaws.{Reached}
use Rattle.lex_strings.proofs.parse_str.Given as goal

-- elements have been passed, and the model is here too
abbrev pub invariant-loop-i : goal.invariant-loop-i
invariant-loop-i l = Reached l.settings l.s l.at l.i

abbrev pub decreases-loop-i : goal.decreases-loop-i
decreases-loop-i l = length l.s - l.i
