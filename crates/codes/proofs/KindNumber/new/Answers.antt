-- A kind is found again from its number.
use Rattle.std.proofs.Common.{sym, ap, ◌∙◌}
use Rattle.wat.specs.Cases.{kind_number}
use Rattle.wat.specs.KindModel.{kind_at}
use Rattle.wat.proofs.KindNumbers.{found_again}
use Rattle.codes.proofs.KindNumber.new.Goals as goal

pub invariant_of-result : goal.invariant_of-result
invariant_of-result c =
    ap (λ n. kind_number (kind_at n)) c.kind_number.ensures ∙ sym (ap kind_number (found_again c.args.k))
    ∙ sym c.kind_number.ensures

pub returns : goal.returns
returns c = ap kind_at c.kind_number.ensures ∙ sym (found_again c.args.k)
