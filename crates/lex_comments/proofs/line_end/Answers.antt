use Rattle.std.proofs.Common.{false}
use Rattle.wat.specs.Chars.{newline}
use Rattle.lex_classes.proofs.SearchLaws.{found_scanned}
use Rattle.lex_comments.proofs.line_end.Goals as goal

pub returns : goal.returns
unfolding newline
returns c = rw c.unwrap_or.ensures (found_scanned newline false c.args.s.now c.args.at c.memchr2.result c.requires c.memchr2.ensures)
