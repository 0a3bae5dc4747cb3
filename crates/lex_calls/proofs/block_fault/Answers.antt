use Rattle.std.proofs.Common.{sym, subst, ◌∙◌}
use Rattle.wat.specs.declared.TokenKind.TheVariants as kind
use Rattle.wat.specs.Answers.{Answer}
use Rattle.lex_token.specs.Steps.{Faults}
use Rattle.lex_token.proofs.CommentLaws.{block_closed}
use Rattle.lex_calls.proofs.block_fault.Goals as goal

pub returns : goal.returns
returns c = λ σ.
    let a = c.args in
    let mark = sym c.is_at.ensures ∙ c.if-not-is_at.false in
    let whole = block_closed σ a.s.now a.at mark c.in-Some.ensures in
    subst (λ (x : Answer). Faults a.at x c.comment_fault.result) (sym whole) (c.comment_fault.ensures σ kind.BlockComment)
