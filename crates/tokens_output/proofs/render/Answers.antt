use Rattle.std.proofs.Common.{arith}
use Rattle.tokens_lines.proofs.WritingLaws.{added_counts}
use Rattle.tokens_output.proofs.OutputLaws.{front_start, output_rejected}
use Rattle.tokens_output.proofs.render.Goals as goal

pub returns-in-Err : goal.returns-in-Err
returns-in-Err c =
    let a = c.put_error.ensures in
    (output_rejected (omega arith) c.in-Err.ensures.err (front_start c.put_header-end.ensures) a, added_counts a)
