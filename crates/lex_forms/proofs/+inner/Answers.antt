use Rattle.std.proofs.Common.{sym, ◌∙◌}
use Rattle.wat.proofs.Basics.{differ}
use Rattle.wat.specs.declared.TokenKind.TheVariants.{LParen}
use Rattle.lex_forms.proofs.FormSteps.{as_kind, form_passed, inner_refused, past_closed, same_refused}
use Rattle.lex_forms.proofs.+inner.Goals as goal

pub loop-kind-preserved-in-LParen : goal.loop-kind-preserved-in-LParen
loop-kind-preserved-in-LParen t c =
    let opening = as_kind LParen (rw c.in-Ok-Some.field-0-is at c.in-Ok-Some.ensures) c.in-LParen.is in
    form_passed c.loop-kind.invariant opening c.if-left-eq0.false (past_closed c.inner.ensures c.in_ok-at-in-LParen.was)

pub returns-in_err-at-in-LParen : goal.returns-in_err-at-in-LParen
returns-in_err-at-in-LParen t c =
    let opening = as_kind LParen (rw c.in-Ok-Some.field-0-is at c.in-Ok-Some.ensures) c.in-LParen.is in
    same_refused
    (inner_refused c.loop-kind.invariant opening c.if-left-eq0.false c.inner.ensures
    (λ end q. let z = sym c.in_err-at-in-LParen.was ∙ q in differ (cc)))
    c.in_err-at-in-LParen.was c.from_residual.ensures
