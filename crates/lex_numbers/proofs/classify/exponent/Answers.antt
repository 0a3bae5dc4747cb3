use Rattle.std.proofs.Common.{◌+◌, sym, ◌∙◌}
use Rattle.lex_numbers.proofs.SliceLaws.{rest_from}
use Rattle.lex_numbers.proofs.PartLaws.{no_byte, some_byte, nothing_passed, missing, passed_on}
use Rattle.lex_numbers.proofs.PartLaws.{no_mark_left, no_mark_first, mark_first, sign_within}
use Rattle.lex_numbers.proofs.classify.exponent.Goals as goal

pub returns-then-is_empty : goal.returns-then-is_empty
returns-then-is_empty c =
    let w = c.args.word.now in
    nothing_passed (no_mark_left c.args.hex w (no_byte w c.is_empty.ensures c.if-is_empty.true))

pub returns-then-not-is_mark : goal.returns-then-not-is_mark
returns-then-not-is_mark c =
    let w = c.args.word.now in
    no_mark_first c.args.hex w (some_byte w c.is_empty.ensures c.if-is_empty.false)
    (sym c.is_mark.ensures ∙ c.if-not-is_mark.true)

-- the digits after the mark and the sign
pub returns : goal.returns
returns c =
    let w = c.args.word.now in
    let h = some_byte w c.is_empty.ensures c.if-is_empty.false in
    let s = c.past_sign-next in
    let p = rw rest_from at s.ensures in
    passed_on (1 + s.result) c.in_ok-digits.digits (sign_within c.args.hex w s.result h p)
    (mark_first c.args.hex w s.result h (sym c.is_mark.ensures ∙ c.if-not-is_mark.false) p)
    (rw rest_from at c.skip_underscores.ensures) c.in_ok-digits.was

pub returns-in_err-digits : goal.returns-in_err-digits
returns-in_err-digits c =
    let w = c.args.word.now in
    let h = some_byte w c.is_empty.ensures c.if-is_empty.false in
    let s = c.past_sign-next in
    missing
    (mark_first c.args.hex w s.result h (sym c.is_mark.ensures ∙ c.if-not-is_mark.false) (rw rest_from at s.ensures))
    (rw rest_from at c.skip_underscores.ensures) c.in_err-digits.was c.from_residual.ensures
