-- After so many bytes the counter is where the model is.
use Rattle.place.proofs.WalkLaws.{Walked}
use Rattle.place.proofs.move_over.Given as goal

abbrev pub invariant-loop-x : goal.invariant-loop-x
invariant-loop-x l = Walked l.fn.p l.w l.at l.x-index
