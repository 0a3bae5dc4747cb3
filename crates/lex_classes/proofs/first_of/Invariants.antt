use Rattle.std.proofs.Common.{◌≡◌, ◌+◌, ◌≤◌, ℕ, Bool}
use Rattle.lex_classes.proofs.SearchLaws.{Least}
use Rattle.lex_classes.proofs.first_of.Given as goal

-- m is the least place that passes
abbrev pub invariant-loop-k : goal.invariant-loop-k
invariant-loop-k g l =
    (l.m ≤ g.row.N) × ((f : ℕ → Bool) (i : ℕ)
    → ((k : ℕ) (r : Bool) → g.F.Fn.post l.passes (k, tt) r → r ≡ f (i + k)) → Least f i g.row.N l.k l.m)
