use Rattle.std.proofs.Common.{◌+◌, ◌∙◌, sym, refl, arith, rules}
use Rattle.lex_classes.proofs.SearchLaws.{clear_one, clear_then, clear_upto, first_clear, sought_block}
use Rattle.lex_classes.proofs.find.Goals as goal

pub loop-k-preserved : goal.loop-k-preserved
loop-k-preserved g c =
    let l = c.loop-k in
    λ f h. clear_one f c.args.at l.k _ refl (l.invariant f h) (sym (h l.k _ c.passes.ensures) ∙ c.if-passes.false)

pub returns-then-end-i : goal.returns-then-end-i
returns-then-end-i g c = λ f h. clear_upto f c.args.at _ _ (omega arith) (c.loop-k.invariant f h)

pub returns-then-i-n : goal.returns-then-i-n
returns-then-i-n g c =
    let l = c.loop-i in
    λ f h.
    let p = c.first_of-n.ensures f l.i (λ k r q. h (l.i + k) r (search rules)) in
    let e = sought_block f c.args.at l.i g.row.N _ l.invariant.0 (l.invariant.1 f h) p c.if-n.true in
    record { on = e.on; before = c.if-i-n.true; clear = e.clear; passes = e.passes }

pub returns-then-n : goal.returns-then-n
returns-then-n g c =
    let l = c.loop-i in
    λ f h.
    let p = c.first_of-n.ensures f l.i (λ k r q. h (l.i + k) r (search rules)) in
    clear_upto f c.args.at _ _ c.if-i-n.false (clear_then f c.args.at l.i _ (l.invariant.1 f h) p.clear)

pub loop-i-preserved : goal.loop-i-preserved
loop-i-preserved g c =
    let l = c.loop-i in (
      omega (arith, l.invariant.0),
      λ f h.
          let p = c.first_of-n.ensures f l.i (λ k r q. h (l.i + k) r (search rules)) in
          clear_then f c.args.at l.i _ (l.invariant.1 f h) (first_clear f l.i g.row.N _ p c.if-n.false),
    )

pub returns : goal.returns
returns g c = λ f h. clear_upto f c.args.at _ _ c.loop-i-test.false (c.loop-i.invariant.1 f h)
