use Rattle.std.proofs.Common.{◌≡◌, ◌-◌, ◌*◌, length}
use Rattle.wat.specs.Division.{record_size}
use Rattle.lex_list.proofs.GoesLaws.{Goes}
use Rattle.lex_list.proofs.list_from.Given as goal

-- the tokens up to here have been walked over, and the list begins with their records
abbrev pub invariant-loop-at : goal.invariant-loop-at
invariant-loop-at l = record {
  goes : Goes l.settings l.text l.start l.budget l.initial.list l.list l.at l.n;
  written : l.used ≡ record_size * l.n;
}

abbrev pub decreases-loop-at : goal.decreases-loop-at
decreases-loop-at l = length l.text - l.at
