use Rattle.std.proofs.Common.{rules}
use Rattle.lex_comments.specs.Find.{among, byte_at}
use Rattle.lex_comments.proofs.FindLaws.{among_same}
use Rattle.lex_comments.proofs.memchr2.Goals as goal

pub returns : goal.returns
returns c =
    c.find.ensures (byte_at (among c.args.x c.args.y) c.args.s.now) (λ k r p. among_same c.args.x c.args.y _ r (search rules))
