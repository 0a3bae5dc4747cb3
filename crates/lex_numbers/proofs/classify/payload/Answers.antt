use Rattle.std.proofs.Common.{arith}
use Rattle.lex_numbers.proofs.SliceLaws.{byte_first, none_left}
use Rattle.lex_numbers.proofs.KindLaws.{payload_here, payload_more}
use Rattle.lex_numbers.proofs.classify.payload.Goals as goal

pub returns-then-d-word : goal.returns-then-d-word
returns-then-d-word c =
    let w = c.in-Some.ensures.within in
    payload_more c.args.sign c.in-Some.ensures.same (byte_first c.args.word.now c.in-Some.d.at (omega arith))

pub returns : goal.returns
returns c =
    payload_here c.args.sign c.in-Some.ensures.same c.is_negative.ensures
    (none_left c.args.word.now c.in-Some.d.at (omega arith))
