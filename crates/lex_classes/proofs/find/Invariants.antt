use Rattle.std.proofs.Common.{◌≡◌, ◌≤◌, ◌-◌, ℕ, Bool}
use Rattle.lex_classes.specs.Scan.{Clear}
use Rattle.lex_classes.proofs.find.Given as goal

-- no place passed passes the closure's test
abbrev pub invariant-loop-i : goal.invariant-loop-i
invariant-loop-i g l =
    (l.at ≤ l.i) × ((f : ℕ → Bool) → ((k : ℕ) (r : Bool) → g.F.Fn.post l.passes (k, tt) r → r ≡ f k) → Clear f l.at l.i)

abbrev pub decreases-loop-i : goal.decreases-loop-i
decreases-loop-i g l = l.to - l.i

-- and where less than a block is left
abbrev pub invariant-loop-k : goal.invariant-loop-k
invariant-loop-k g l =
    (f : ℕ → Bool) → ((k : ℕ) (r : Bool) → g.F.Fn.post l.passes (k, tt) r → r ≡ f k) → Clear f l.at l.k
