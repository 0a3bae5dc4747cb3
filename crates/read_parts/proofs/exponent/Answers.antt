use Rattle.std.proofs.Common.{◌+◌, refl, arith}
use Rattle.lex_numbers.proofs.SliceLaws.{slice_between}
use Rattle.read_parts.proofs.PartLaws.{sign_left, sign_before, exponent_absent, exponent_handed}
use Rattle.read_parts.proofs.FloatLaws.{normal_at, gaps}
use Rattle.read_parts.proofs.exponent.Goals as goal

pub past_whole-dot-requires : goal.past_whole-dot-requires
past_whole-dot-requires c = record { at = normal_at c.requires.at refl }

pub past_fraction-mark-requires-clause-at : goal.past_fraction-mark-requires-clause-at
past_fraction-mark-requires-clause-at c = normal_at c.requires.at refl

pub returns-then-mark-end : goal.returns-then-mark-end
returns-then-mark-end c =
    exponent_absent (normal_at c.requires.at refl) c.past_fraction-mark.ensures.leaves c.args.underscores c.if-mark-end.true

pub hand-requires : goal.hand-requires
hand-requires c =
    let a = c.args in
    let i = c.past_fraction-mark.result + 1 in
    let h = c.requires.at.fits in
    let p = sign_left a.text.now i a.end c.past_sign.result h (omega arith) c.past_sign.ensures in (
      p.1,
      h,
      sign_before a.text.now i (i + c.past_sign.result) a.end h (rw slice_between at c.sign_of-sign.ensures) (omega arith)
          p.0 p.1,
    )

-- the digits after the mark and the sign are all that is left
pub returns : goal.returns
returns c =
    let a = c.args in
    let i = c.past_fraction-mark.result + 1 in
    let p = sign_left a.text.now i a.end c.past_sign.result c.requires.at.fits (omega arith) c.past_sign.ensures in
    exponent_handed (normal_at c.requires.at refl) c.past_fraction-mark.ensures.leaves a.underscores (omega arith)
    (rw slice_between at c.sign_of-sign.ensures) p.0 p.1 c.hand.ensures (gaps c.requires.at)
