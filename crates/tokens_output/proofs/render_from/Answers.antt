use Rattle.std.proofs.Common.{refl, arith}
use Rattle.lex_calls.proofs.CallLaws.{token_fits}
use Rattle.tokens_lines.proofs.WritingLaws.{added_counts}
use Rattle.tokens_output.proofs.OutputLaws.{in_text, few, has_room, output_end, output_fault}
use Rattle.tokens_output.proofs.render_from.Goals as goal

pub put_line-end-requires : goal.put_line-end-requires
put_line-end-requires c =
    let p = c.loop-kind.invariant in
    let small = rw (← c.text-text.ensures) at c.requires.small in
    let h = token_fits _ _ _ p.reached.walked.stands (rw c.in-Ok-Some.field-0-is at c.in-Ok-Some.ensures) refl in
    (has_room small p.reached (omega (arith, p.long, c.requires.room)), omega (arith, h, small), omega (arith, h, small))

pub overflow_add-count : goal.overflow_add-count
overflow_add-count c =
    let p = c.loop-kind.invariant.reached in
    let small = rw (← c.text-text.ensures) at c.requires.small in
    omega (arith, few small p, token_fits _ _ _ p.walked.stands (rw c.in-Ok-Some.field-0-is at c.in-Ok-Some.ensures) refl, small)

pub put_error-requires : goal.put_error-requires
put_error-requires c =
    let p = c.loop-kind.invariant in
    has_room (rw (← c.text-text.ensures) at c.requires.small) p.reached (omega (arith, p.long, c.requires.room))

pub returns-in-Err : goal.returns-in-Err
returns-in-Err c =
    let a = c.put_error.ensures in
    let small = rw (← c.text-text.ensures) at c.requires.small in
    let s = rw (← c.text-text.ensures, c.requires.start) at c.at-at.ensures.stands in
    rw (← c.text-text.ensures) (output_fault small c.loop-kind.invariant.reached s c.in-Err.ensures a, added_counts a)

pub put_end-requires : goal.put_end-requires
put_end-requires c =
    let p = c.loop-kind.invariant in
    let small = rw (← c.text-text.ensures) at c.requires.small in
    (has_room small p.reached (omega (arith, p.long, c.requires.room)), omega (arith, in_text small p.reached, small))

pub returns-in-Ok-None : goal.returns-in-Ok-None
returns-in-Ok-None c =
    let a = c.put_end.ensures in
    let small = rw (← c.text-text.ensures) at c.requires.small in
    let s = rw (← c.text-text.ensures, c.requires.start) at c.at-at.ensures.stands in
    rw (← c.text-text.ensures)
    (output_end small c.loop-kind.invariant.reached s (rw c.in-Ok-None.field-0-is at c.in-Ok-None.ensures) a, added_counts a)
