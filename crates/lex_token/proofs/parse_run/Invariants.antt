use Rattle.std.proofs.Common.{◌-◌, length}
use Rattle.lex_token.proofs.RunLaws.{Ran}
use Rattle.lex_token.proofs.parse_run.Given as goal

-- from `at` to where the loop stands there is a run, and what is left is well formed
abbrev pub invariant-loop-settings : goal.invariant-loop-settings
invariant-loop-settings l = Ran l.settings l.s l.at l.i

abbrev pub decreases-loop-settings : goal.decreases-loop-settings
decreases-loop-settings l = length l.s - l.i
