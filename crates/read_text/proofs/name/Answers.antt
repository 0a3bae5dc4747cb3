use Rattle.read_text.proofs.ReadLaws.{name_read}
use Rattle.read_text.proofs.name.Goals as goal

pub returns : goal.returns
returns c = name_read c.in_ok-kind.ensures.ok c.name.ensures
