use Rattle.std.proofs.Common.{◌≡◌, ap, ◌∙◌, List, ℕ}
use Rattle.wat.specs.declared.Sign.{Sign}
use Rattle.wat.specs.NumberModel.{unsigned, after_sign, classify}
use Rattle.wat.proofs.Numbers.Decides.{kind_of}
use Rattle.lex_numbers.proofs.SliceLaws.{rest_from}
use Rattle.lex_numbers.proofs.classify_number.Goals as goal

-- the model gives the only kind
pub returns : goal.returns
unfolding classify
returns c =
    let s = c.args.word.now in
    let e : c.unsigned.result ≡ classify s =
    (rw rest_from at c.unsigned.ensures)
    ∙ ap (λ (t : List ℕ). unsigned c.sign_of.result t) c.past_sign.ensures.same
    ∙ ap (λ (σ : Sign). unsigned σ (after_sign s)) c.sign_of.ensures in
    rw e (kind_of s)
