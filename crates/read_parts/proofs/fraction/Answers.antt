use Rattle.std.proofs.Common.{refl, arith}
use Rattle.read_parts.proofs.PartLaws.{fraction_order, fraction_handed}
use Rattle.read_parts.proofs.FloatLaws.{normal_at, gaps}
use Rattle.read_parts.proofs.fraction.Goals as goal

pub past_whole-dot-requires : goal.past_whole-dot-requires
past_whole-dot-requires c = record { at = normal_at c.requires.at refl }

pub past_fraction-to-requires-clause-at : goal.past_fraction-to-requires-clause-at
past_fraction-to-requires-clause-at c = normal_at c.requires.at refl

pub overflow_sub-to : goal.overflow_sub-to
overflow_sub-to c =
    fraction_order (normal_at c.requires.at refl) c.past_whole-dot.ensures.leaves c.past_fraction-to.ensures.leaves
    c.args.underscores

-- the digits after the point are where the scan finds them
pub returns : goal.returns
returns c =
    fraction_handed (normal_at c.requires.at refl) c.past_whole-dot.ensures.leaves c.past_fraction-to.ensures.leaves
    c.args.underscores (omega arith) c.hand.ensures (gaps c.requires.at)
