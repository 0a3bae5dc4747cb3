use Rattle.std.proofs.Common.{arith, inl, inr}
use Rattle.lex_classes.proofs.SearchLaws.{least_none, least_next, least_first}
use Rattle.lex_classes.proofs.first_of.Goals.{then-passes, else-passes}
use Rattle.lex_classes.proofs.first_of.Goals as goal

pub loop-k-init : goal.loop-k-init
loop-k-init g c = (omega arith, λ f i h. least_none f i g.row.N)

pub loop-k-preserved : goal.loop-k-preserved
loop-k-preserved g c =
    let l = c.loop-k in (
      omega (arith, l.invariant.0, c.min-m.ensures),
      λ f i h. least_next f i g.row.N l.k l.m _ c.if-passes.min c.passes.result (omega arith) (l.invariant.1 f i h)
          (h l.k _ c.passes.ensures)
          (elim c.if-passes.branch [
            | then-passes w ↦ inl (w.if-passes.true, w.min-is)
            | else-passes w ↦ inr (w.if-passes.false, w.min-is)
          ])
          c.min-m.ensures,
    )

pub returns : goal.returns
returns g c = λ f i h. least_first f i g.row.N c.loop-k.k c.loop-k.m (omega arith) (c.loop-k.invariant.1 f i h)
