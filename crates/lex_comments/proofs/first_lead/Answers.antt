use Rattle.std.proofs.Common.{arith}
use Rattle.lex_classes.proofs.SearchLaws.{clear_none}
use Rattle.lex_comments.specs.Confusing.{confusing_at}
use Rattle.lex_comments.proofs.HiddenLaws.{led_begins}
use Rattle.lex_comments.proofs.first_lead.Goals as goal

pub returns-then-to-from-le32 : goal.returns-then-to-from-le32
returns-then-to-from-le32 c = (omega arith, clear_none (confusing_at c.args.s.now) c.args.from c.args.from (omega arith))

pub returns : goal.returns
returns c = led_begins c.args.s.now c.args.from c.args.to c.memchr2.result c.memchr2.ensures
