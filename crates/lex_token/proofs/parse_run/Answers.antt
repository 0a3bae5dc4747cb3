use Rattle.std.proofs.Common.{rules}
use Rattle.lex_token.proofs.WalkLaws.{run_ends, run_on, run_breaks}
use Rattle.lex_token.proofs.parse_run.Goals as goal

pub returns-then-not-is_at : goal.returns-then-not-is_at
returns-then-not-is_at c = search (rules, run_ends)

pub loop-settings-preserved : goal.loop-settings-preserved
loop-settings-preserved c =
    run_on _ _ _ c.loop-settings.i _ _ _ c.in_ok-i.ensures c.idchars_end-k.ensures c.is_at.ensures c.if-not-is_at.false
    c.loop-settings.invariant

pub returns-in_err-i : goal.returns-in_err-i
returns-in_err-i c = search (rules, run_breaks)
