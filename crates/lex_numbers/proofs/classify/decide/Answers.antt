use Rattle.std.proofs.Common.{ap, subst, ◌∙◌, arith}
use Rattle.lex_numbers.specs.Places.{left_at, Within}
use Rattle.lex_numbers.proofs.SliceLaws.{byte_first, none_left, rest_from}
use Rattle.lex_numbers.proofs.KindLaws.{decide_integer, decide_float}
use Rattle.lex_numbers.proofs.classify.decide.Goals as goal

pub returns-then-d-word : goal.returns-then-d-word
returns-then-d-word c =
    let a = c.args in
    decide_integer a.sign a.hex (ap (left_at a.word.now) c.in-Some.is)
    (none_left a.word.now c.in-Some.d.at (omega arith))

pub returns : goal.returns
returns c =
    let a = c.args in
    let w = subst (Within a.word.now) c.in-Some.is c.requires.within in
    (rw rest_from at c.float.ensures)
    ∙ decide_float a.sign a.hex (ap (left_at a.word.now) c.in-Some.is)
    (byte_first a.word.now c.in-Some.d.at (omega arith))
