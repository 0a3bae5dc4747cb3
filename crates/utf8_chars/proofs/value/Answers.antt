-- The four cases of `scalar`.
use Rattle.std.proofs.Common.{arith}
use Rattle.utf8_chars.proofs.ScalarLaws.{scalar_1, scalar_2, scalar_3, scalar_4}
use Rattle.utf8_chars.proofs.value.Goals as goal

pub returns-then-n-eq1 : goal.returns-then-n-eq1
returns-then-n-eq1 c =
    let a = c.args in
    scalar_1 a.s.now a.at a.n (omega arith) c.from-a.result c.if-n-eq1.true c.from-a.ensures

pub returns-then-n-eq2 : goal.returns-then-n-eq2
returns-then-n-eq2 c =
    let a = c.args in
    scalar_2 a.s.now a.at a.n (omega arith) c.from-a.result c.six_bits-b.result c.if-n-eq2.true
    c.from-a.ensures c.six_bits-b.ensures

pub returns-then-n-eq3 : goal.returns-then-n-eq3
returns-then-n-eq3 c =
    let a = c.args in
    scalar_3 a.s.now a.at a.n (omega arith) c.from-a.result c.six_bits-b.result c.six_bits-c.result c.if-n-eq3.true
    c.from-a.ensures c.six_bits-b.ensures c.six_bits-c.ensures

pub returns : goal.returns
returns c =
    let a = c.args in
    scalar_4 a.s.now a.at a.n (omega arith) c.from-a.result c.six_bits-b.result c.six_bits-c.result c.six_bits-d.result
    (omega arith) c.from-a.ensures c.six_bits-b.ensures c.six_bits-c.ensures c.six_bits-d.ensures
