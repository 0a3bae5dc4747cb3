use Rattle.std.proofs.Common.{rules, true}
use Rattle.lex_classes.specs.Ask.{raw}
use Rattle.lex_classes.proofs.ascii_raw_end.Goals as goal

pub returns : goal.returns
returns c = c.scan.ensures raw true (λ b r p. search rules)
