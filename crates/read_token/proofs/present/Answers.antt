use Rattle.std.proofs.Common.{rules}
use Rattle.read_token.proofs.PresentLaws.{missed}
use Rattle.read_token.proofs.present.Goals as goal

pub returns-clause-err : goal.returns-clause-err
returns-clause-err c = missed _ _ _ (search rules) c.present_at.ensures.err
