use Rattle.std.proofs.Common.{◌+◌, true, arith, rules}
use Rattle.wat.specs.Chars.{space}
use Rattle.lex_classes.proofs.SearchLaws.{other, rest_scanned, earliest_scanned}
use Rattle.lex_classes.proofs.skip_ws.Goals as goal

pub returns-in-Some : goal.returns-in-Some
returns-in-Some c =
    earliest_scanned space true _ _ _ _ (omega arith) (c.in-Some.ensures (other space true c.args.s.now) (λ k r p. search rules))

pub returns : goal.returns
returns c =
    rest_scanned space true _ _ (c.args.at + 8) _ (omega arith) (omega arith)
    (c.in_default.ensures (other space true c.args.s.now) (λ k r p. search rules)) c.long_ws-2.ensures
