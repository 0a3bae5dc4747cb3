-- Row by row of the table.
use Rattle.std.proofs.Common.{[], ◌∷◌, sym, refl, ◌∙◌, arith}
use Rattle.wat.specs.Utf8.{◌‥◌, table}
use Rattle.utf8_chars.specs.Fronts.{trailing}
use Rattle.utf8_chars.proofs.FollowLaws.{front_row, front_none}
use Rattle.utf8_chars.proofs.front_at.Goals as goal

pub returns-then-a-lt128 : goal.returns-then-a-lt128
unfolding table
returns-then-a-lt128 c =
    let a = c.args in
    sym (front_row a.s.now a.at (omega arith) 0 0x00 0x7F [] (omega arith) refl (omega arith) (omega arith))

pub returns-then-a-lt194 : goal.returns-then-a-lt194
unfolding table
returns-then-a-lt194 c =
    let a = c.args in
    sym (front_none a.s.now a.at (omega arith) (omega arith))

pub returns-then-a-lt224 : goal.returns-then-a-lt224
unfolding table
returns-then-a-lt224 c =
    let a = c.args in
    c.rest_at.ensures
    ∙ sym (front_row a.s.now a.at (omega arith) 1 0xC2 0xDF (0x80 ‥ 0xBF ∷ trailing 0)
    (omega arith) refl (omega arith) (omega arith))

pub returns-then-a-lt225 : goal.returns-then-a-lt225
unfolding table
returns-then-a-lt225 c =
    let a = c.args in
    c.rest_at-then-a-lt225.ensures
    ∙ sym (front_row a.s.now a.at (omega arith) 2 0xE0 0xE0 (0xA0 ‥ 0xBF ∷ trailing 1)
    (omega arith) refl (omega arith) (omega arith))

pub returns-then-a-lt237 : goal.returns-then-a-lt237
unfolding table
returns-then-a-lt237 c =
    let a = c.args in
    c.rest_at-then-a-lt237.ensures
    ∙ sym (front_row a.s.now a.at (omega arith) 3 0xE1 0xEC (0x80 ‥ 0xBF ∷ trailing 1)
    (omega arith) refl (omega arith) (omega arith))

pub returns-then-a-lt238 : goal.returns-then-a-lt238
unfolding table
returns-then-a-lt238 c =
    let a = c.args in
    c.rest_at-then-a-lt238.ensures
    ∙ sym (front_row a.s.now a.at (omega arith) 4 0xED 0xED (0x80 ‥ 0x9F ∷ trailing 1)
    (omega arith) refl (omega arith) (omega arith))

pub returns-then-a-lt240 : goal.returns-then-a-lt240
unfolding table
returns-then-a-lt240 c =
    let a = c.args in
    c.rest_at-then-a-lt240.ensures
    ∙ sym (front_row a.s.now a.at (omega arith) 5 0xEE 0xEF (0x80 ‥ 0xBF ∷ trailing 1)
    (omega arith) refl (omega arith) (omega arith))

pub returns-then-a-lt241 : goal.returns-then-a-lt241
unfolding table
returns-then-a-lt241 c =
    let a = c.args in
    c.rest_at-then-a-lt241.ensures
    ∙ sym (front_row a.s.now a.at (omega arith) 6 0xF0 0xF0 (0x90 ‥ 0xBF ∷ trailing 2)
    (omega arith) refl (omega arith) (omega arith))

pub returns-then-a-lt244 : goal.returns-then-a-lt244
unfolding table
returns-then-a-lt244 c =
    let a = c.args in
    c.rest_at-then-a-lt244.ensures
    ∙ sym (front_row a.s.now a.at (omega arith) 7 0xF1 0xF3 (0x80 ‥ 0xBF ∷ trailing 2)
    (omega arith) refl (omega arith) (omega arith))

pub returns-then-a-lt245 : goal.returns-then-a-lt245
unfolding table
returns-then-a-lt245 c =
    let a = c.args in
    c.rest_at-then-a-lt245.ensures
    ∙ sym (front_row a.s.now a.at (omega arith) 8 0xF4 0xF4 (0x80 ‥ 0x8F ∷ trailing 2)
    (omega arith) refl (omega arith) (omega arith))

pub returns : goal.returns
unfolding table
returns c =
    let a = c.args in
    sym (front_none a.s.now a.at (omega arith) (omega arith))
