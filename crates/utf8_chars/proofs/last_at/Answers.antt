-- The text ends before the third byte, or that byte is out of its range.
use Rattle.std.proofs.Common.{◌+◌, sym, ◌∙◌, arith}
use Rattle.utf8_chars.proofs.FollowLaws.{trail_cut, trail_out}
use Rattle.utf8_chars.proofs.last_at.Goals as goal

pub returns-then-s-at-le2 : goal.returns-then-s-at-le2
returns-then-s-at-le2 c =
    let a = c.args in
    sym (trail_cut a.s.now (a.at + 2) 2 a.n (omega arith) (omega arith))

pub returns-then-not-within : goal.returns-then-not-within
returns-then-not-within c =
    let a = c.args in
    let out = sym c.within.ensures ∙ c.if-not-within.true in
    sym (trail_out a.s.now (a.at + 2) 2 a.n (omega arith) (omega arith) out)
