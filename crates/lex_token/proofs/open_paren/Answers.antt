use Rattle.std.proofs.Common.{rules}
use Rattle.lex_token.proofs.CommentLaws.{block_whole}
use Rattle.lex_token.proofs.open_paren.Goals as goal

pub returns : goal.returns
returns c = search (rules, block_whole)
