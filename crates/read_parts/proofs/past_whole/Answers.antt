use Rattle.lex_numbers.proofs.SliceLaws.{slice_between}
use Rattle.read_parts.proofs.PartLaws.{whole_ends}
use Rattle.read_parts.proofs.past_whole.Goals as goal

pub returns-clause-leaves : goal.returns-clause-leaves
returns-clause-leaves c =
    let p = c.past_prefix-from.ensures in
    whole_ends c.requires.at c.skip_underscores.result c.end_of.ensures p.within p.leaves
    (rw slice_between at c.skip_underscores.ensures)
