use Rattle.lex_list.proofs.GoesLaws.{goes_refused}
use Rattle.lex_list.proofs.list_from.Goals as goal

pub returns-in_default : goal.returns-in_default
returns-in_default c =
    rw (← c.text-text.ensures, ← c.at-start.ensures.at)
    (goes_refused (rw (c.text-text.ensures, c.at-start.ensures.at) c.at-start.ensures.stands) c.loop-at.invariant.goes
    c.step_at.ensures c.loop-at-test.true c.if-n-budget.false c.in_default.is c.fault_at-fault.ensures)
