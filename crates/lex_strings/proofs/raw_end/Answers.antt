use Rattle.std.proofs.Common.{sym, ◌∙◌, arith}
use Rattle.lex_strings.proofs.RawLaws.{raw_one, raws_none, raws_more}
use Rattle.lex_strings.proofs.raw_end.Goals as goal

pub loop-i-init : goal.loop-i-init
loop-i-init c = raws_none _ _ c.requires.at_in_bounds

pub loop-i-preserved-then-is_raw : goal.loop-i-preserved-then-is_raw
loop-i-preserved-then-is_raw c =
    raws_more _ _ _ 1 c.loop-i.invariant (raw_one _ _ (omega arith) (sym c.is_raw.ensures ∙ c.if-is_raw.true))

pub loop-i-preserved : goal.loop-i-preserved
loop-i-preserved c = raws_more _ _ _ _ c.loop-i.invariant c.in-Some.ensures
