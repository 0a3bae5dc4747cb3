use Rattle.std.proofs.Common.{Bool, ◌||◌, ap}
use Rattle.lex_numbers.proofs.SliceLaws.{slice_between}
use Rattle.read_parts.proofs.PartLaws.{whole_fits, whole_handed}
use Rattle.read_parts.proofs.whole.Goals as goal

pub hand-requires : goal.hand-requires
hand-requires c =
    whole_fits c.requires.at (rw slice_between at c.sign_of-sign.ensures) c.past_prefix-from.ensures.leaves
    c.past_whole-to.ensures.leaves

-- the digits are where the scan finds them
pub returns : goal.returns
returns c =
    λ sign u p f e x g.
    whole_handed c.requires.at x (rw slice_between at c.sign_of-sign.ensures)
    (c.past_prefix-from.ensures.leaves sign u p f e x) (c.past_whole-to.ensures.leaves sign u p f e x) c.hand.ensures
    (ap (λ (b : Bool). c.args.hex || b) g)
