use Rattle.std.proofs.Common.{◌+◌, arith, rules}
use Rattle.lex_classes.proofs.SearchLaws.{finds_then, earliest_upto}
use Rattle.lex_comments.specs.Ends.{mark_at}
use Rattle.lex_comments.proofs.next_mark.Goals as goal

pub returns-in-Some : goal.returns-in-Some
returns-in-Some c =
    earliest_upto (mark_at c.args.s.now) c.args.at (c.args.at + 8) _ _ (omega arith)
    (c.in-Some.ensures (mark_at c.args.s.now) (λ k r p. search rules))

pub returns : goal.returns
returns c =
    finds_then (mark_at c.args.s.now) c.args.at (c.args.at + 8) _ c.far_mark-2.result (omega arith)
    (c.in_default.ensures (mark_at c.args.s.now) (λ k r p. search rules)) c.far_mark-2.ensures
