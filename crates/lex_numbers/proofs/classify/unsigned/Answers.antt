use Rattle.std.proofs.Common.{sym, ◌∙◌}
use Rattle.wat.specs.Numbers.{inf, nan, nan_colon}
use Rattle.lex_numbers.proofs.SliceLaws.{byte_first}
use Rattle.lex_numbers.proofs.PartLaws.{no_byte, some_byte}
use Rattle.lex_numbers.proofs.KindLaws.{strip_some, strip_none, told, nothing_after_sign, digit_first, is_inf, is_nan, is_payload, is_none}
use Rattle.lex_numbers.proofs.classify.unsigned.Goals as goal

pub returns-then-is_empty : goal.returns-then-is_empty
returns-then-is_empty c =
    let e = no_byte c.args.word.now c.is_empty.ensures c.if-is_empty.true in rw e (nothing_after_sign c.args.sign)

pub returns-then-is_digit : goal.returns-then-is_digit
returns-then-is_digit c =
    let w = c.args.word.now in
    c.finite.ensures
    ∙ digit_first c.args.sign w _ (byte_first w 0 (some_byte w c.is_empty.ensures c.if-is_empty.false))
    (sym c.is_digit.ensures ∙ c.if-is_digit.true)

pub returns-then-eq : goal.returns-then-eq
returns-then-eq c =
    let w = c.args.word.now in
    is_inf c.args.sign w c.is_negative-negative.ensures (told inf w c.as_slice.ensures c.eq.ensures c.if-eq.true)

pub returns-then-eq-2 : goal.returns-then-eq-2
returns-then-eq-2 c =
    let w = c.args.word.now in
    is_nan c.args.sign w (told inf w c.as_slice.ensures c.eq.ensures c.if-eq.false) c.is_negative-negative.ensures
    (told nan w c.as_slice-2.ensures c.eq-2.ensures c.if-eq-2.true)

pub returns-in-Some : goal.returns-in-Some
returns-in-Some c =
    let w = c.args.word.now in
    let s = c.in-Some.ensures.cases in
    c.payload.ensures
    ∙ is_payload c.args.sign w (told inf w c.as_slice.ensures c.eq.ensures c.if-eq.false)
    (told nan w c.as_slice-2.ensures c.eq-2.ensures c.if-eq-2.false) (strip_some nan_colon w s.0 s.1)

pub returns-in-None : goal.returns-in-None
returns-in-None c =
    let w = c.args.word.now in
    is_none c.args.sign w (told inf w c.as_slice.ensures c.eq.ensures c.if-eq.false)
    (told nan w c.as_slice-2.ensures c.eq-2.ensures c.if-eq-2.false) _
    (byte_first w 0 (some_byte w c.is_empty.ensures c.if-is_empty.false)) (strip_none nan_colon w c.in-None.ensures.cases)
    (sym c.is_digit.ensures ∙ c.if-is_digit.false)
