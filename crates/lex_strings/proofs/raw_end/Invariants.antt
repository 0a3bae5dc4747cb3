use Rattle.std.proofs.Common.{◌-◌, length}
use Rattle.lex_strings.specs.Raw.{Raws}
use Rattle.lex_strings.proofs.raw_end.Given as goal

-- each character passed stands for itself
abbrev pub invariant-loop-i : goal.invariant-loop-i
invariant-loop-i l = Raws l.s l.at l.i

abbrev pub decreases-loop-i : goal.decreases-loop-i
decreases-loop-i l = length l.s - l.i
