-- A move over some bytes, and from there over others. `proofs/PieceLaws` shows that it is a move over both, wherever
-- the bytes are cut.
use Rattle.std.specs.Prelude.{ℕ, true, false, List}
use Rattle.place.specs.declared.Place.{Place}
use Rattle.place.specs.Places.{Moved, Moves}

abbrev pub to : Place → Moved
to p = record { ok = true; place = p }

abbrev pub stay : Place → Moved
stay p = record { ok = false; place = p }

-- where either is refused, the counter is where it was before both
pub data InTwo (from : Place) (u v : List ℕ) : Moved → Type 0 where
  made : {p q : Place} → Moves from u (to p) → Moves p v (to q) → InTwo from u v (to q)
  first : Moves from u (stay from) → InTwo from u v (stay from)
  second : {p : Place} → Moves from u (to p) → Moves p v (stay p) → InTwo from u v (stay from)
