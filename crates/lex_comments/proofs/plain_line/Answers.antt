use Rattle.std.proofs.Common.{false, rules}
use Rattle.lex_classes.proofs.SearchLaws.{other, found_scanned}
use Rattle.lex_comments.specs.Ends.{line_stop}
use Rattle.lex_comments.proofs.plain_line.Goals as goal

pub returns : goal.returns
returns c =
    rw c.unwrap_or.ensures (found_scanned line_stop false c.args.s.now c.args.at c.find.result c.requires
    (c.find.ensures (other line_stop false c.args.s.now) (λ k r p. search rules)))
