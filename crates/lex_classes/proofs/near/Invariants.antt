use Rattle.std.proofs.Common.{◌≡◌, ℕ, Bool}
use Rattle.lex_classes.specs.Scan.{Clear}
use Rattle.lex_classes.proofs.near.Given as goal

-- no place passed passes the closure's test
abbrev pub invariant-loop-i : goal.invariant-loop-i
invariant-loop-i g l = (f : ℕ → Bool) → ((k : ℕ) (r : Bool) → g.F.Fn.post l.passes (k, tt) r → r ≡ f k) → Clear f l.at l.i
