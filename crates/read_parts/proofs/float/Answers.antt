use Rattle.read_parts.proofs.FloatLaws.{normal_at}
use Rattle.read_parts.proofs.float.Goals as goal

-- a float that is no infinity and no NaN is a number
pub whole-requires : goal.whole-requires
whole-requires c = record { at = normal_at c.requires.at c.in-Normal.is }
