use Rattle.std.proofs.Common.{rules}
use Rattle.lex_numbers.proofs.SliceLaws.{slice_between}
use Rattle.lex_token.proofs.FrontLaws.{front_digits, front_told}
use Rattle.lex_token.proofs.word_kinds.word_kind.Goals as goal

pub returns-then-end-digits_end : goal.returns-then-end-digits_end
returns-then-end-digits_end c = search (rules, front_digits)

pub returns : goal.returns
returns c =
    let a = c.args in
    front_told a.s.now a.at a.end _ _ (rw slice_between at c.classify_number.ensures) c.named_kind.ensures
