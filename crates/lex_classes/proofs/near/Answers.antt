use Rattle.std.proofs.Common.{◌∙◌, sym, refl, arith}
use Rattle.lex_classes.proofs.SearchLaws.{clear_one, clear_upto}
use Rattle.lex_classes.proofs.near.Goals as goal

pub loop-i-preserved : goal.loop-i-preserved
loop-i-preserved g c =
    let l = c.loop-i in
    λ f h. clear_one f c.args.at l.i _ refl (l.invariant f h) (sym (h l.i _ c.passes.ensures) ∙ c.if-passes.false)

pub returns : goal.returns
returns g c = λ f h. clear_upto f c.args.at _ _ (omega arith) (c.loop-i.invariant f h)
