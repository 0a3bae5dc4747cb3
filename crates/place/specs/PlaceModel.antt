-- The place after the bytes, by functions that compute. `proofs/MoveLaws` shows that they decide `Moves`.
use Rattle.std.specs.Prelude.{ℕ, ◌+◌, true, false, ◌&&◌, List, [], ◌∷◌, leb, Option, Some, None}
use Rattle.place.specs.declared.Place.{Place}
use Rattle.wat.specs.Chars.{newline}
use Rattle.place.specs.Places.{Moved, answer}
use Rattle.wat_lines.specs.LineEnds.{begins, carriage_return}

-- the last number that a counter holds
abbrev pub last : ℕ
last = 4_294_967_295

-- the column after one byte
unfoldable pub next_column : ℕ → ℕ → ℕ
next_column c x = elim (newline x) [ true ↦ 1 | false ↦ c + 1 ]

abbrev pub next_place : Place → ℕ → Place
next_place p x = record {
  line = p.line + begins p.after_cr x;
  column = next_column p.column x;
  after_cr = carriage_return x;
}

-- the place, where a counter holds it
unfoldable pub kept : Place → Option Place
kept p = elim (leb p.line last && leb p.column last) [ true ↦ Some p | false ↦ None ]

-- after one byte; none where the counter does not hold it
abbrev pub step : Place → ℕ → Option Place
step p x = kept (next_place p x)

-- after all of them, one by one
unfoldable pub after : Place → List ℕ → Option Place
after p [] = Some p
after p (x ∷ t) = elim (step p x) [ Some q ↦ after q t | None ↦ None ]

unfoldable pub moved : Place → List ℕ → Moved
moved p w = answer p (after p w)
