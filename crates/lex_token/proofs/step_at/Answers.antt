use Rattle.lex_token.proofs.QuickLaws.{quick_known}
use Rattle.lex_token.proofs.step_at.Goals as goal

pub returns-in-Some : goal.returns-in-Some
returns-in-Some c = quick_known _ _ _ _ _ c.quick.ensures c.in-Some.is
