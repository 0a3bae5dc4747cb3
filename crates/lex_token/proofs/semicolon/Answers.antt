use Rattle.std.proofs.Common.{rules}
use Rattle.lex_token.proofs.CommentLaws.{line_whole}
use Rattle.lex_token.proofs.semicolon.Goals as goal

pub returns : goal.returns
returns c = search (rules, line_whole)
