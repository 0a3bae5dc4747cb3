use Rattle.lex_comments.proofs.HiddenLaws.{hidden_none, hidden_whole, hidden_some}
use Rattle.lex_comments.proofs.check_confusing_comment.Goals as goal

pub char_at-requires : goal.char_at-requires
char_at-requires c =
    let r = c.requires in
    hidden_whole c.args.s.now c.args.from c.args.to r.well_formed r.from_le_to.0 r.from_le_to.1 c.in-Some.at c.in-Some.ensures

pub returns-in-Some : goal.returns-in-Some
returns-in-Some c =
    let r = c.requires in
    hidden_some c.args.s.now c.args.from c.args.to r.well_formed r.from_le_to.0 r.from_le_to.1 c.in-Some.at c.in-Some.ensures
    c.char_at.result c.char_at.ensures

pub returns-in-None : goal.returns-in-None
returns-in-None c =
    let r = c.requires in
    hidden_none c.args.s.now c.args.from c.args.to r.well_formed r.from_le_to.0 r.from_le_to.1 c.in-None.ensures
