-- The limit is 64: so many openings, each in the one before, and as many closings are a form; and where the openings stand
-- without the closings, no level is left. Assumes nothing.
use Prim.Native.Nat.{ℕ, zero, suc}
use mathlib.Core.List.{List, [], ◌∷◌, ◌++◌}
use Rattle.wat.specs.declared.TokenKind.TheVariants as kind
use Rattle.wat.specs.Division.{Piece}
use Rattle.wat_forms.specs.Forms.{deepest, opens, closes, Forms, Form, Inside, Begun}

-- so many openings, and as many closings
abbrev pub nested : ℕ → List Piece
nested zero = []
nested (suc d) = record { kind = kind.LParen; len = 1 } ∷ (nested d ++ (record { kind = kind.RParen; len = 1 } ∷ []))

-- so many openings
abbrev pub opened : ℕ → List Piece
opened zero = []
opened (suc d) = record { kind = kind.LParen; len = 1 } ∷ opened d

nested_forms : (d : ℕ) → Forms d (nested d)
nested_forms zero = Forms.none
nested_forms (suc d) = Forms.form opens (nested_forms d) closes Forms.none

opened_inside : (d : ℕ) → Inside d 0 (opened d)
opened_inside zero = Inside.here Forms.none
opened_inside (suc d) = Inside.deeper Forms.none opens (opened_inside d)

pub sixty_four : Form deepest (nested 64) × Begun deepest 0 (opened 64)
sixty_four = (Form.form opens (nested_forms 63) closes, Begun.begun opens (opened_inside 63))
