use Rattle.std.proofs.Common.{◌≡◌, ◌-◌, length}
use Rattle.tokens_output.proofs.OutputLaws.{Reached}
use Rattle.tokens_output.proofs.render_from.Given as goal

-- the tokens walked over have their lines in the buffer
abbrev pub invariant-loop-kind : goal.invariant-loop-kind
invariant-loop-kind l = record {
  reached : Reached l.text l.out l.end l.at l.count;
  long : length l.out ≡ length l.initial.out;
}

abbrev pub decreases-loop-kind : goal.decreases-loop-kind
decreases-loop-kind l = length l.text - l.at
