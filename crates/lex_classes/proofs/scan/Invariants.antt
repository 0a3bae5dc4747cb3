use Rattle.std.proofs.Common.{◌≡◌, ℕ, Bool}
use Rattle.lex_classes.specs.Scan.{Passed, alike}
use Rattle.lex_classes.proofs.scan.Given as goal

-- the bytes passed are as the closure's test says
abbrev pub invariant-loop-i : goal.invariant-loop-i
invariant-loop-i g l =
    (test : ℕ → Bool) (b : Bool) → ((x : ℕ) (r : Bool) → g.F.Fn.post l.passes (x, tt) r → r ≡ alike b (test x))
    → Passed test b l.s l.at l.i
