use Rattle.std.proofs.Common.{sym, ◌∙◌, arith, rules}
use Rattle.read_token.proofs.PresentLaws.{other_kind_there, there}
use Rattle.read_token.proofs.present_at.Goals as goal

pub returns-then-ne-clause-err : goal.returns-then-ne-clause-err
returns-then-ne-clause-err c =
    let q = rw (c.text-text.ensures, c.at-offset.ensures.at) at c.parse_kind.ensures in
    other_kind_there _ _ c.at-offset.ensures.stands q c.in-Some.is c.kind.ensures (search rules)

pub returns-clause-ok : goal.returns-clause-ok
returns-clause-ok c =
    let q = rw (c.text-text.ensures, c.at-offset.ensures.at) at c.parse_kind.ensures in
    there _ _ c.at-offset.ensures.stands q c.in-Some.is (sym c.kind.ensures ∙ (search rules))
    (omega (arith, c.at-offset.ensures.at))
