-- What stands at the place, by `front_at`, is a character or nothing.
use Rattle.std.proofs.Common.{sym, arith, length-drop, drop}
use Rattle.utf8_chars.proofs.DecodeLaws.{front_char, decoded_char, decoded_wrong, decoded_cut, decoded_end}
use Rattle.utf8_chars.proofs.decode.Goals as goal

pub returns-then-at-s : goal.returns-then-at-s
returns-then-at-s c = decoded_end _ _ c.if-at-s.true

pub value-requires : goal.value-requires
value-requires c =
    let a = c.args in
    let f = front_char (drop a.at a.s.now) c.in-Whole.len (sym c.in-Whole.ensures) in
    omega (arith, length-drop a.at a.s.now)

pub returns-in-Whole : goal.returns-in-Whole
returns-in-Whole c =
    let a = c.args in
    decoded_char a.s.now a.at c.value.result c.in-Whole.len (omega arith) (sym c.in-Whole.ensures) c.value.ensures

pub returns-in-Wrong : goal.returns-in-Wrong
returns-in-Wrong c = decoded_wrong _ _ (sym c.in-Wrong.ensures)

pub returns-in-Cut : goal.returns-in-Cut
returns-in-Cut c = decoded_cut _ (sym c.in-Cut.ensures)
