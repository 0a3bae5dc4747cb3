use Rattle.std.proofs.Common.{◌≡◌}
use Rattle.std.proofs.Math.Seq.{slice}
use Rattle.wat.specs.Bytes.{byte, has}
use Rattle.lex_strings.proofs.has_escape.Given as goal

-- none of the bytes passed is a `\`
abbrev pub invariant-loop-i : goal.invariant-loop-i
invariant-loop-i l = has (byte "\\") (slice l.from l.to l.s) ≡ has (byte "\\") (slice l.i l.to l.s)
