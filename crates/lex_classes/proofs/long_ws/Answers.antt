use Rattle.std.proofs.Common.{true, rules}
use Rattle.wat.specs.Chars.{space}
use Rattle.lex_classes.proofs.SearchLaws.{other, found_scanned}
use Rattle.lex_classes.proofs.long_ws.Goals as goal

pub returns : goal.returns
returns c =
    rw c.unwrap_or.ensures (found_scanned space true c.args.s.now c.args.at c.find.result c.requires.at_in_bounds
    (c.find.ensures (other space true c.args.s.now) (λ k r p. search rules)))
