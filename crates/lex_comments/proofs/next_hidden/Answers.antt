use Rattle.std.proofs.Common.{Some, arith, rules}
use Rattle.lex_classes.proofs.SearchLaws.{finds_then, finds_upto}
use Rattle.lex_comments.specs.Confusing.{confusing_at, Begins}
use Rattle.lex_comments.proofs.HiddenLaws.{unhidden}
use Rattle.lex_comments.proofs.next_hidden.Goals as goal

pub returns-then-s-from-lt3 : goal.returns-then-s-from-lt3
returns-then-s-from-lt3 c = record { none = λ k a l. unhidden c.args.s.now k (omega (arith, a)) }

pub returns : goal.returns
returns c =
    let s = c.args.s.now in
    let b : Begins s c.args.from c.args.to (Some c.in_ok-i.i) = c.in_ok-i.ensures in
    finds_then (confusing_at s) c.args.from c.in_ok-i.i c.args.to c.find.result b.0 b.1
    (finds_upto (confusing_at s) c.in_ok-i.i c.min.result c.args.to c.find.result (omega (arith, c.min.ensures))
    (record { none = λ k a l. unhidden s k (omega (arith, a, l, c.min.ensures)) })
    (c.find.ensures (confusing_at s) (λ k r p. search rules)))
