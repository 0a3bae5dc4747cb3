use Rattle.lex_numbers.proofs.SliceLaws.{slice_between}
use Rattle.read_parts.proofs.PartLaws.{fraction_ends}
use Rattle.read_parts.proofs.past_fraction.Goals as goal

pub returns-clause-leaves : goal.returns-clause-leaves
returns-clause-leaves c =
    fraction_ends c.requires.at c.fraction.result c.end_of.ensures c.requires.dot.1 c.requires.dot.0
    (rw slice_between at c.fraction.ensures)
