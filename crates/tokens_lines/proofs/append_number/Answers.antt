-- the figures, and then the byte
use Rattle.std.proofs.Common.{arith}
use Rattle.tokens_lines.proofs.WritingLaws.{number_added}
use Rattle.tokens_lines.proofs.append_number.Goals as goal

pub returns : goal.returns
returns c =
    let a = c.args in
    let k = c.decimal-k in
    number_added _ k.result a.n a.after k.ensures.len k.ensures.digits c.append-end.ensures (omega arith)
