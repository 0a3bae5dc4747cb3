use Rattle.std.proofs.Common.{sym, ◌∙◌, arith}
use Rattle.lex_numbers.proofs.SliceLaws.{rest_from}
use Rattle.lex_numbers.proofs.PartLaws.{no_byte, some_byte, nothing_passed, missing, passed_on}
use Rattle.lex_numbers.proofs.PartLaws.{no_dot_left, no_dot_first, dot_last, dot_digit, dot_other}
use Rattle.lex_numbers.proofs.fraction.Goals as goal
use Rattle.lex_numbers.proofs.fraction.Goals.{then-is_empty-via-then-is_empty, then-word-lt2-via-then-word-lt2}
use Rattle.lex_numbers.proofs.fraction.Goals.{then-is_empty-via-else-is_empty+then-word-ne46}
use Rattle.lex_numbers.proofs.fraction.Goals.{then-word-lt2-via-else-word-lt2+then-not-is_digit}

pub returns-then-is_empty : goal.returns-then-is_empty
returns-then-is_empty c =
    let a = c.args in
    elim c.then-is_empty.branch [
      | then-is_empty-via-then-is_empty w ↦
          nothing_passed (no_dot_left a.hex a.word.now (no_byte a.word.now c.is_empty.ensures w.if-is_empty.true))
      | then-is_empty-via-else-is_empty+then-word-ne46 w ↦
          nothing_passed
          (no_dot_first a.hex a.word.now (some_byte a.word.now c.is_empty.ensures w.if-is_empty.false) w.if-word-ne46.true)
    ]

pub returns-then-word-lt2 : goal.returns-then-word-lt2
returns-then-word-lt2 c =
    let a = c.args in
    let h = some_byte a.word.now c.is_empty.ensures c.if-is_empty.false in
    elim c.then-word-lt2.branch [
      | then-word-lt2-via-then-word-lt2 w ↦ dot_last a.hex a.word.now h c.if-word-ne46.false w.if-word-lt2.true
      | then-word-lt2-via-else-word-lt2+then-not-is_digit w ↦
          dot_other a.hex a.word.now h c.if-word-ne46.false w.if-word-lt2.false
          (sym w.is_digit.ensures ∙ w.if-not-is_digit.true)
    ]

-- the digits after the dot
pub returns : goal.returns
returns c =
    let a = c.args in
    let h = some_byte a.word.now c.is_empty.ensures c.if-is_empty.false in
    passed_on 1 c.in_ok-digits.digits (omega arith)
    (dot_digit a.hex a.word.now h c.if-word-ne46.false c.if-word-lt2.false (sym c.is_digit.ensures ∙ c.if-not-is_digit.false))
    (rw rest_from at c.skip_underscores.ensures) c.in_ok-digits.was

pub returns-in_err-digits : goal.returns-in_err-digits
returns-in_err-digits c =
    let a = c.args in
    let h = some_byte a.word.now c.is_empty.ensures c.if-is_empty.false in
    missing
    (dot_digit a.hex a.word.now h c.if-word-ne46.false c.if-word-lt2.false (sym c.is_digit.ensures ∙ c.if-not-is_digit.false))
    (rw rest_from at c.skip_underscores.ensures) c.in_err-digits.was c.from_residual.ensures
