-- The loop of `move_over`: after i bytes the counter is where the model is. Assumes nothing.
use Prim.Native.Nat.{ℕ, ◌+◌, ◌≤◌, ◌<◌}
use native.Mathlib.Numerals.{add-one}
use native.Mathlib.Omega.{arith}
use mathlib.Core.Path.{◌≡◌, refl, sym, ◌∙◌}
use mathlib.Core.Bool.{true, false}
use mathlib.Core.List.{List}
use Rattle.std.specs.Prelude.{Option, Some, None}
use lib.ListN.{length, drop, get_or, drop_of_length-le}
use lib.Seq.{drop-cons}
use Rattle.place.specs.declared.Place.{Place}
use Rattle.place.specs.Places.{Moves}
use Rattle.place.specs.PlaceModel.{step, after, moved}
use Rattle.place.proofs.MoveLaws.{Held, decides}

-- the first i bytes lead from p to q
pub record Walked (p : Place) (w : List ℕ) (q : Place) (i : ℕ) : Type 0 where
  pub from : Held p
  pub within : i ≤ length w
  pub same : after p w ≡ after q (drop i w)

pub walked_none : (p : Place) (w : List ℕ) → Held p → Walked p w p 0
walked_none p w h = record { from = h; within = omega arith; same = refl }

module _ {p : Place} {w : List ℕ} {q : Place} {i : ℕ} {o : Option Place} (k : Walked p w q i) (h : i < length w)
    (e : o ≡ step q (get_or w i 0)) where
  pub walked_on : {r : Place} → o ≡ Some r → Walked p w r (i + 1)
  unfolding after
  walked_on f =
      record {
        from = k.from;
        within = omega arith;
        same = k.same ∙ rw (add-one, drop-cons w i 0, sym e ∙ f, after);
      }

  pub walked_full : o ≡ None → Moves p w (record { ok = false; place = p })
  unfolding after moved
  walked_full f =
      let z : after p w ≡ None = k.same ∙ rw (drop-cons w i 0, sym e ∙ f, after) in rw z at (decides p w k.from)

pub walked_all : {p : Place} {w : List ℕ} {q : Place} {i : ℕ} → Walked p w q i → length w ≤ i
    → Moves p w (record { ok = true; place = q })
unfolding after moved
walked_all {p} {w} {q} k h = let z : after p w ≡ Some q = k.same ∙ rw (drop_of_length-le w h) in
    rw z at (decides p w k.from)
