use Rattle.std.proofs.Common.{drop, arith, length-drop}
use Rattle.lex_numbers.proofs.SliceLaws.{byte_first, none_left, rest_from}
use Rattle.lex_numbers.proofs.KindLaws.{fraction_bad, exponent_bad, normal_here, normal_more}
use Rattle.lex_numbers.proofs.classify.float.Goals as goal

pub returns-in_default : goal.returns-in_default
returns-in_default c = let a = c.args in fraction_bad a.hex a.seen _ c.in_default.ensures.same

pub returns-in_default-exponent : goal.returns-in_default-exponent
returns-in_default-exponent c =
    let a = c.args in exponent_bad a.hex a.seen _ c.in-Some.ensures.same (rw rest_from at c.in_default-exponent.ensures.same)

pub returns-then-f-e : goal.returns-then-f-e
returns-then-f-e c =
    let a = c.args in
    let f = c.in-Some in
    let e = c.in-Some-exponent in
    let p = f.ensures.within in
    let q = rw rest_from at e.ensures.within in
    normal_more a.hex a.seen _ f.ensures.same (rw rest_from at e.ensures.same)
    (byte_first (drop f.f.at a.word.now) e.e.at (omega (arith, length-drop f.f.at a.word.now)))

pub returns : goal.returns
returns c =
    let a = c.args in
    let f = c.in-Some in
    let e = c.in-Some-exponent in
    normal_here a.hex a.seen _ f.ensures.same (rw rest_from at e.ensures.same)
    (none_left (drop f.f.at a.word.now) e.e.at (omega (arith, length-drop f.f.at a.word.now)))
