use Rattle.std.proofs.Common.{rules}
use Rattle.lex_token.proofs.ReservedLaws.{word_here, rest_formed, rest_none, string_bad, rest_bad, rest_more}
use Rattle.lex_token.proofs.parse_reserved.Goals as goal

pub returns-then-not-is_at : goal.returns-then-not-is_at
returns-then-not-is_at c = search (rules, word_here)

pub parse_run-requires-clause-well_formed : goal.parse_run-requires-clause-well_formed
parse_run-requires-clause-well_formed c = search (rules, rest_formed)

pub returns-then-k-j : goal.returns-then-k-j
returns-then-k-j c =
    rest_none _ _ _ _ _ c.idchars_end-i.ensures c.is_at.ensures c.requires.well_formed c.if-not-is_at.false _ c.in-Ok.ensures _
    c.parse_run.ensures _ _ c.in-Ok-parse_run.is c.if-k-j.true c.quoted_kind.ensures

pub returns-in_default : goal.returns-in_default
returns-in_default c = search (rules, string_bad)

pub returns-in_default-parse_run : goal.returns-in_default-parse_run
returns-in_default-parse_run c =
    rest_bad _ _ _ _ _ c.idchars_end-i.ensures c.is_at.ensures c.requires.well_formed c.if-not-is_at.false _ c.in-Ok.ensures _
    c.parse_run.ensures _ c.in_default-parse_run.is

pub returns : goal.returns
returns c = search (rules, rest_more)
