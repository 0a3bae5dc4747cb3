use Rattle.std.proofs.Common.{◌-◌, length}
use Rattle.lex_strings.proofs.CopyLaws.{Measured}
use Rattle.lex_strings.proofs.decoded_len.Given as goal

-- n bytes are what has been passed
abbrev pub invariant-loop-i : goal.invariant-loop-i
invariant-loop-i l = Measured l.s l.at l.i l.n

abbrev pub decreases-loop-i : goal.decreases-loop-i
decreases-loop-i l = length l.s - l.i
