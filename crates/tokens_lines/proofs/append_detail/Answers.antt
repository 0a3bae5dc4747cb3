-- three words, one behind the other
use Rattle.std.proofs.Common.{arith}
use Rattle.buffers.proofs.AddedLaws.{added_same, added_then}
use Rattle.tokens_spelt.proofs.LengthLaws.{parted_short}
use Rattle.tokens_lines.proofs.append_detail.Goals as goal

pub append-a-requires : goal.append-a-requires
append-a-requires c = let s = parted_short c.requires.0.1 in omega arith

pub append-b-requires : goal.append-b-requires
append-b-requires c = let s = parted_short c.requires.0.1 in omega arith

pub append-requires : goal.append-requires
append-requires c = let s = parted_short c.requires.0.1 in omega arith

pub returns : goal.returns
returns c =
    λ k p. added_same p.detail (added_then c.append-a.ensures (added_then c.append-b.ensures c.append.ensures))
