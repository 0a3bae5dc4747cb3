-- The answer by number and values, which name an error or none.
use Rattle.std.proofs.Common.{sym, ◌∙◌, arith}
use Rattle.messages.specs.ByNumber.{TellsBy}
use Rattle.messages.proofs.ByNumberLaws.{unspelled, tells_by}
use Rattle.messages.proofs.message_of.Goals as goal

pub returns-then-is_wide : goal.returns-then-is_wide
returns-then-is_wide c = TellsBy.none (unspelled _ _ _ (sym c.is_wide.ensures ∙ c.if-is_wide.true))

pub returns : goal.returns
returns c =
    tells_by c.args.number c.args.first c.args.second _ _
    (sym c.is_wide.ensures ∙ c.if-is_wide.false)
    (omega arith)
    (omega arith)
    c.narrow.ensures
    c.narrow-2.ensures
    c.tell.ensures
