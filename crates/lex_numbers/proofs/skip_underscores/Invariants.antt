use Rattle.lex_numbers.proofs.DigitLaws.{Ran}
use Rattle.lex_numbers.proofs.skip_underscores.Given as goal

-- the run of the word is the run from `i`, after what was seen
abbrev pub invariant-loop-i : goal.invariant-loop-i
invariant-loop-i l = Ran l.hex l.word l.i l.must l.seen
