use Rattle.std.proofs.Common.{◌-◌, length}
use Rattle.lex_forms.proofs.FormSteps.{Passed}
use Rattle.lex_forms.proofs.+inner.Given as goal

abbrev pub decreases-inner : goal.decreases-inner
decreases-inner l = l.left

-- up to here stand forms and other tokens
abbrev pub invariant-loop-kind : goal.invariant-loop-kind
invariant-loop-kind l = Passed l.settings l.text l.start l.left l.at

abbrev pub decreases-loop-kind : goal.decreases-loop-kind
decreases-loop-kind l = length l.text - l.at
