use Rattle.std.proofs.Common.{rules, true, false}
use Rattle.wat.specs.Numbers.{digit}
use Rattle.lex_classes.proofs.digits_end.Goals as goal

pub returns : goal.returns
returns c = c.scan.ensures (digit false) true (λ b r p. search rules)
