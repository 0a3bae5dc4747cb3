-- the word and the numbers, one behind the other
use Rattle.buffers.proofs.AddedLaws.{added_same, added_then}
use Rattle.tokens_lines.proofs.WritingLaws.{last_joined}
use Rattle.tokens_lines.proofs.put_last.Goals as goal

pub returns : goal.returns
returns c =
    let a = c.args in
    added_same (last_joined a.word.now a.a a.b)
    (added_then c.append-c.ensures (added_then c.append_number-d.ensures.0 c.append_number.ensures.0))
