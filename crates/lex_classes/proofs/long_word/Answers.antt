use Rattle.std.proofs.Common.{rules, true}
use Rattle.wat.specs.Chars.{idchar}
use Rattle.lex_classes.proofs.long_word.Goals as goal

pub returns : goal.returns
returns c = c.scan.ensures idchar true (λ b r p. search rules)
