use Rattle.std.proofs.Common.{rules}
use Rattle.lex_token.proofs.AloneLaws.{word_whole}
use Rattle.lex_token.proofs.alone.word_alone.Goals as goal

pub returns : goal.returns
returns c = search (rules, word_whole)
