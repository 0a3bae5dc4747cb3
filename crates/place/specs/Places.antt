-- The place counter: lines, and columns, which count bytes (docs/RULES.md, 14).
use Rattle.std.specs.Prelude.{ℕ, ◌+◌, ◌≤◌, ◌≡◌, Bool, true, false, List, ◌∷◌, ◌++◌, length, Option, Some, None}
use Rattle.place.specs.declared.Place.{Place}
use Rattle.wat.specs.Bytes.{Each}
use Rattle.wat.specs.Chars.{newline}
use Rattle.wat_lines.specs.LineEnds.{line_ends, ends_in_return}

abbrev pub new : Place
new = record { line = 1; column = 1; after_cr = false }

-- the column after the bytes: it restarts at 1 after the last CR or LF
pub data Column (c : ℕ) : List ℕ → ℕ → Type 0 where
  goes_on : {w : List ℕ} → Each newline false w → Column c w (c + length w)
  restarts : (v : List ℕ) (x : ℕ) {w : List ℕ} → newline x ≡ true → Each newline false w
      → Column c (v ++ (x ∷ w)) (1 + length w)

-- from a place, the bytes lead to a line and a column that a counter holds
pub record Leads (from : Place) (w : List ℕ) (to : Place) : Type 0 where
  pub line : to.line ≡ from.line + line_ends from.after_cr w
  pub column : Column from.column w to.column
  pub after_cr : to.after_cr ≡ ends_in_return from.after_cr w
  pub holds : (to.line ≤ 4_294_967_295) × (to.column ≤ 4_294_967_295)

-- whether a move is made, and the counter after it; unchanged where the move is refused by 35
pub record Moved : Type 0 where
  pub ok : Bool
  pub place : Place

-- what a move from p comes to, by the place to which it leads, if any
abbrev pub answer : Place → Option Place → Moved
answer p (Some q) = record { ok = true; place = q }
answer p None = record { ok = false; place = p }

-- a move over the bytes; or 35, where line or column would be past the limit after any of them, and the counter stays
pub data Moves (from : Place) (w : List ℕ) : Moved → Type 0 where
  moves : {to : Place} → ((u v : List ℕ) → u ++ v ≡ w → (p : Place) × Leads from u p) → Leads from w to
      → Moves from w (record { ok = true; place = to })
  full : (u v : List ℕ) → u ++ v ≡ w → ((p : Place) → Leads from u p → ⊥)
      → Moves from w (record { ok = false; place = from })
