-- The three parts of a character's number stand one behind the other.
use Rattle.std.proofs.Common.{◌≡◌, false, arith}
use Rattle.wat.specs.Bytes.{between}
use Rattle.wat.proofs.Basics.{between_under, between_over}
use Rattle.buffers.proofs.AddedLaws.{added_then}
use Rattle.messages.proofs.CharLaws.{shown_hex}
use Rattle.messages.proofs.escape_char.Goals as goal
use Rattle.messages.proofs.escape_char.Goals.{in_default-c-via-then-c-lt32, in_default-c-via-else-c-lt32+else-c-lt127}

pub returns-in_default-c : goal.returns-in_default-c
returns-in_default-c c =
    let x = c.args.c in
    let outside : between 0x20 0x7E x ≡ false =
    elim c.in_default-c.branch [
      | in_default-c-via-then-c-lt32 w ↦ between_under 0x20 0x7E x (omega arith)
      | in_default-c-via-else-c-lt32+else-c-lt127 w ↦ between_over 0x20 0x7E x (omega arith)
    ] in
    rw (shown_hex x c.in_default.ensures.nameless outside)
    (added_then c.append-open.ensures (added_then c.lower_hex-end.ensures c.append.ensures))
