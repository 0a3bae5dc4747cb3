use Rattle.std.proofs.Common.{arith, rules}
use Rattle.lex_classes.proofs.SearchLaws.{finds_upto}
use Rattle.lex_comments.specs.Ends.{mark_at}
use Rattle.lex_comments.proofs.BlockLaws.{no_marks}
use Rattle.lex_comments.proofs.far_mark.Goals as goal

pub returns-then-s-at-lt2 : goal.returns-then-s-at-lt2
returns-then-s-at-lt2 c = no_marks c.args.s.now c.args.at (omega arith)

pub returns : goal.returns
returns c =
    finds_upto (mark_at c.args.s.now) c.args.at _ _ c.find.result (omega arith) (no_marks c.args.s.now _ (omega arith))
    (c.find.ensures (mark_at c.args.s.now) (λ k r p. search rules))
