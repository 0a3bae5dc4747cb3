use Rattle.std.proofs.Common.{refl, arith}
use Rattle.lex_strings.proofs.CopyLaws.{never_refused, measured_raws, measured_element, measured_pair, measured_quote}
use Rattle.lex_strings.proofs.decoded_len.Goals as goal

pub loop-i-smaller-then-is_some : goal.loop-i-smaller-then-is_some
loop-i-smaller-then-is_some c =
    let r = c.raw_end-j.ensures in
    let x = measured_pair (measured_raws c.loop-i.invariant r) c.pair.result c.pair.ensures c.is_some.ensures c.if-is_some.true in
    omega (arith, x.passed.within, r.order)

pub loop-i-preserved-then-is_some : goal.loop-i-preserved-then-is_some
loop-i-preserved-then-is_some c =
    measured_pair (measured_raws c.loop-i.invariant c.raw_end-j.ensures) c.pair.result c.pair.ensures c.is_some.ensures
    c.if-is_some.true

pub loop-i-preserved-in-Byte : goal.loop-i-preserved-in-Byte
loop-i-preserved-in-Byte c = measured_element (measured_raws c.loop-i.invariant c.raw_end-j.ensures) c.in-Byte.ensures refl

pub loop-i-preserved : goal.loop-i-preserved
loop-i-preserved c = measured_element (measured_raws c.loop-i.invariant c.raw_end-j.ensures) c.in-Char.ensures.0 c.len_utf8-n.ensures

pub returns-in-Quote : goal.returns-in-Quote
returns-in-Quote c = measured_quote (measured_raws c.loop-i.invariant c.raw_end-j.ensures) c.in-Quote.ensures.0

pub returns-in-Refused : goal.returns-in-Refused
returns-in-Refused c =
    let x = measured_raws c.loop-i.invariant c.raw_end-j.ensures in
    absurd (never_refused x.passed c.in-Refused.ensures c.requires.closes.1)
