use Rattle.std.proofs.Common.{arith}
use Rattle.lex_escapes.proofs.CharLaws.{ascii_character}
use Rattle.lex_escapes.proofs.must_char.Goals as goal

pub returns-then-b-lt128 : goal.returns-then-b-lt128
returns-then-b-lt128 c =
    let a = c.args in
    ascii_character a.s.now a.at c.from.result (omega arith) c.if-b-lt128.true c.from.ensures
