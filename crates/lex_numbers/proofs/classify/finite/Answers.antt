use Rattle.std.proofs.Common.{◌≡◌, true, drop, ℕ, sym, ap, ◌∙◌}
use Rattle.wat.specs.NumberModel.{run, decide}
use Rattle.lex_numbers.proofs.SliceLaws.{rest_from}
use Rattle.lex_numbers.proofs.KindLaws.{finite_told}
use Rattle.lex_numbers.proofs.classify.finite.Goals as goal

-- the digits stand after the prefix
pub returns : goal.returns
returns c =
    let a = c.args in
    let w = a.word.now in
    let h = c.begins_0x-hex.result in
    let n = c.prefix_len in
    let e : c.decide.result ≡ decide a.sign h (run h true (drop n.result w)) =
    rw rest_from at (c.decide.ensures ∙ ap (decide a.sign h) (sym c.digits.ensures.same)) in
    e ∙ ap (λ (k : ℕ). decide a.sign h (run h true (drop k w))) n.ensures ∙ finite_told a.sign w h c.begins_0x-hex.ensures
