use Rattle.std.proofs.Common.{refl, sym, ◌∙◌, arith, rules}
use Rattle.wat_laws.proofs.OneCall.{sign_stands}
use Rattle.lex_calls.proofs.CallLaws.{token_fits, fault_fits, sign_some, annotation_other}
use Rattle.lex_calls.proofs.annotation_at.Goals as goal

pub overflow_add-result : goal.overflow_add-result
overflow_add-result c =
    let a = c.args in
    let sign = sign_some a.text.now a.pos (sym c.is_at.ensures ∙ c.if-not-is_at.false) in
    let b = sign_stands _ _ c.requires sign in
    omega (arith, (fault_fits _ _ _ b c.in-Err.ensures refl).0, b.sound.short)

pub overflow_cast-result : goal.overflow_cast-result
overflow_cast-result c =
    let a = c.args in
    let sign = sign_some a.text.now a.pos (sym c.is_at.ensures ∙ c.if-not-is_at.false) in
    let b = sign_stands _ _ c.requires sign in
    omega (arith, token_fits _ _ _ b (rw c.in-Ok-Some.field-0-is at c.in-Ok-Some.ensures) refl, b.sound.short)

pub returns-else-eq : goal.returns-else-eq
returns-else-eq c =
    let a = c.args in
    let sign = sign_some a.text.now a.pos (sym c.is_at.ensures ∙ c.if-not-is_at.false) in
    annotation_other _ _ _ c.requires sign (rw c.in-Ok-Some.field-0-is at c.in-Ok-Some.ensures) refl (search rules)
