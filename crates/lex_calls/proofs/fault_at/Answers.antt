use Rattle.std.proofs.Common.{sym, ◌∙◌}
use Rattle.lex_token.proofs.LexLaws.{lex_family}
use Rattle.lex_calls.proofs.FaultLaws.{fault_none, family_fault, line_faults}
use Rattle.lex_calls.proofs.fault_at.Goals as goal

pub returns-in-OpenParen : goal.returns-in-OpenParen
returns-in-OpenParen c =
    let a = c.args in
    family_fault _ _ _ c.requires.at_in_bounds (sym c.begins.ensures ∙ c.in-OpenParen.is) (c.block_fault.ensures a.settings)

pub returns-in-Semi : goal.returns-in-Semi
returns-in-Semi c =
    let σ = c.args.settings in
    family_fault _ _ _ c.requires.at_in_bounds (sym c.begins.ensures ∙ c.in-Semi.is)
    (line_faults σ _ _ c.line_end.ensures (c.comment_fault.ensures σ))

pub returns-in-Run : goal.returns-in-Run
returns-in-Run c = family_fault _ _ _ c.requires.at_in_bounds (sym c.begins.ensures ∙ c.in-Run.is) c.run_fault.ensures

pub returns-in-Other : goal.returns-in-Other
returns-in-Other c = family_fault _ _ _ c.requires.at_in_bounds (sym c.begins.ensures ∙ c.in-Other.is) c.unexpected.ensures

pub returns-in-Spaces : goal.returns-in-Spaces
returns-in-Spaces c = fault_none (lex_family _ _ _ c.requires.at_in_bounds (sym c.begins.ensures ∙ c.in-Spaces.is))

pub returns-in-CloseParen : goal.returns-in-CloseParen
returns-in-CloseParen c = fault_none (lex_family _ _ _ c.requires.at_in_bounds (sym c.begins.ensures ∙ c.in-CloseParen.is))

pub returns-in-Single : goal.returns-in-Single
returns-in-Single c = fault_none (lex_family _ _ _ c.requires.at_in_bounds (sym c.begins.ensures ∙ c.in-Single.is))
