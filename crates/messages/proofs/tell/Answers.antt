-- The model's answer.
use Rattle.std.proofs.Common.{sym, ◌∙◌}
use Rattle.messages.proofs.AnswerLaws.{fit, cut, delivered}
use Rattle.messages.proofs.tell.Goals as goal

pub returns-then-buffer-n : goal.returns-then-buffer-n
returns-then-buffer-n c =
    cut c.fmt-n.ensures c.if-buffer-n.true ∙ fit _ _ _ _ (sym c.has_message.ensures ∙ c.if-not-has_message.false)

pub returns : goal.returns
returns c =
    delivered c.fmt-n.ensures c.if-buffer-n.false c.append.ensures
    ∙ fit _ _ _ _ (sym c.has_message.ensures ∙ c.if-not-has_message.false)
