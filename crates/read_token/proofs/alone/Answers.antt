use Rattle.std.proofs.Common.{◌∙◌, arith, rules}
use Rattle.read_token.proofs.PresentLaws.{alone_there}
use Rattle.read_token.proofs.alone.Goals as goal

pub returns-in-Some : goal.returns-in-Some
returns-in-Some c = λ e.
    alone_there _ _ (omega arith) (omega arith) (omega arith) c.token_alone.ensures c.in-Some.is
    ((search rules) ∙ c.new.ensures)
