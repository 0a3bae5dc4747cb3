use Rattle.std.proofs.Common.{arith}
use Rattle.lex_strings.proofs.PassLaws.{reached_raws, reached_element, reached_pair, reached_ends, reached_fails}
use Rattle.lex_strings.proofs.parse_str.Goals as goal

pub loop-i-smaller-then-is_some : goal.loop-i-smaller-then-is_some
loop-i-smaller-then-is_some c =
    let r = c.raw_end-i.ensures in
    let x = reached_pair (reached_raws c.loop-i.invariant r) c.pair.result c.pair.ensures c.is_some.ensures c.if-is_some.true in
    omega (arith, x.passed.within, r.order)

pub loop-i-preserved-then-is_some : goal.loop-i-preserved-then-is_some
loop-i-preserved-then-is_some c =
    reached_pair (reached_raws c.loop-i.invariant c.raw_end-i.ensures) c.pair.result c.pair.ensures c.is_some.ensures
    c.if-is_some.true

pub loop-i-preserved-in-Byte : goal.loop-i-preserved-in-Byte
loop-i-preserved-in-Byte c = reached_element (reached_raws c.loop-i.invariant c.raw_end-i.ensures) c.in-Byte.ensures

pub loop-i-preserved : goal.loop-i-preserved
loop-i-preserved c = reached_element (reached_raws c.loop-i.invariant c.raw_end-i.ensures) c.in-Char.ensures.0

pub returns-in-Quote : goal.returns-in-Quote
returns-in-Quote c = reached_ends (reached_raws c.loop-i.invariant c.raw_end-i.ensures) c.in-Quote.ensures

pub returns-in-Refused : goal.returns-in-Refused
returns-in-Refused c = reached_fails (reached_raws c.loop-i.invariant c.raw_end-i.ensures) c.in-Refused.ensures
