-- Each answer's own part.
use Rattle.read_second.specs.Parts.{PartFor}
use Rattle.read_second.proofs.PartLaws.{promised, text_part, buffer_part, absent_part}
use Rattle.std.proofs.Common.{rules}
use Rattle.read_second.proofs.part.Goals as goal

pub returns-in-Ok-Some-Text : goal.returns-in-Ok-Some-Text
returns-in-Ok-Some-Text c = text_part (search rules) c.sub.ensures

pub returns-in-Ok-Some-Buffer : goal.returns-in-Ok-Some-Buffer
returns-in-Ok-Some-Buffer c = buffer_part (search rules) c.sub-in-Ok-Some-Buffer.ensures

pub returns-in-Err : goal.returns-in-Err
returns-in-Err c = promised c.in-Err.is (PartFor.refused (search rules))

pub returns-in-Ok-None : goal.returns-in-Ok-None
returns-in-Ok-None c = absent_part (search rules) (search rules)
