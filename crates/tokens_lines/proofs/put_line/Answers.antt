-- the words and the numbers of a line, one behind the other
use Rattle.std.proofs.Common.{arith}
use Rattle.tokens_spelt.proofs.LengthLaws.{detail_short, parted_short}
use Rattle.buffers.proofs.AddedLaws.{added_same, added_then}
use Rattle.tokens_lines.proofs.WritingLaws.{line_joined}
use Rattle.tokens_lines.proofs.put_line.Goals as goal

-- no part is longer than it may be
pub append-requires : goal.append-requires
append-requires c =
    let p = c.words_of-p.ensures in
    let s = parted_short p in
    let b = c.append_number-b.ensures.1 c.requires.1 in
    let l = c.append_number-c.ensures.1 c.requires.2 in
    omega (arith, (c.append_detail-d.ensures c.args.k p).ends, detail_short c.args.k)

pub returns : goal.returns
returns c =
    let a = c.args in
    let p = c.words_of-p.ensures in
    added_same (line_joined a.k a.offset a.len)
    (added_then (added_same p.name c.append-a.ensures)
    (added_then c.append_number-b.ensures.0
    (added_then c.append_number-c.ensures.0 (added_then (c.append_detail-d.ensures a.k p) c.append.ensures))))
