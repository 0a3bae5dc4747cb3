-- A move over bytes is one over their front and then one over the rest, wherever they are cut. Assumes nothing.
use Prim.Native.Nat.{ℕ}
use mathlib.Core.Path.{◌≡◌, refl, ap, subst, ◌∙◌}
use mathlib.Core.List.{List, [], ◌∷◌, ◌++◌, append_assoc}
use Rattle.std.specs.Prelude.{Option, Some, None}
use native.Mathlib.Omega.{arith}
use Rattle.place.specs.declared.Place.{Place}
use Rattle.wat_lines.specs.LineEnds.{line_ends}
use Rattle.place.specs.Places.{Leads, Moved, Moves, answer}
use Rattle.place.specs.Pieces.{to, stay, InTwo}
use Rattle.place.specs.PlaceModel.{step, after, moved}
use Rattle.wat.proofs.Basics.{differ, never}
use Rattle.place.proofs.OnePlace.{moves_one}
use Rattle.place.proofs.MoveLaws.{Held, Kept, keeps, stays, decides}

after_append : (u : List ℕ) (p q : Place) (v : List ℕ) → after p u ≡ Some q → after p (u ++ v) ≡ after q v
unfolding after
after_append [] p q v e = let z : p ≡ q = cc in rw z
after_append (x ∷ u) p q v e = go (step p x) refl (after_append u)
  where
    go : (o : Option Place) → step p x ≡ o
        → ((m q : Place) (v : List ℕ) → after m u ≡ Some q → after m (u ++ v) ≡ after q v)
        → after p (x ∷ (u ++ v)) ≡ after q v
    go (Some m) k ih = rw (k, after) (ih m q v (rw (k, after) at e))
    go None k ih = let z : None ≡ Some q = rw (k, after) at e in differ (cc)

led_held : {p q : Place} → Leads p [] q → Held p
unfolding line_ends
led_held l = (omega (arith, l.line, l.holds.0), omega (arith, stays l.column refl, l.holds.1))

-- a move that is made starts and ends where a counter holds it, and is the model's
goes : {p q : Place} {w : List ℕ} {m : Moved} → m ≡ to q → Moves p w m → Held p × Held q × (after p w ≡ Some q)
unfolding moved
goes {p} {q} {w} e (Moves.moves s l) =
    let h : Held p = led_held (s [] w refl).1 in
    let z : moved p w ≡ to q = moves_one (decides p w h) (Moves.moves s l) ∙ e in
    (h, rw (ap (λ (m : Moved). m.place) e) at l.holds, place_of (after p w) z)
  where
    place_of : (o : Option Place) → answer p o ≡ to q → o ≡ Some q
    place_of (Some r) z = ap (λ (m : Moved). Some m.place) z
    place_of None z = absurd (never (ap (λ (m : Moved). m.ok) z) refl)
goes e (Moves.full u v k n) = absurd (never (ap (λ (m : Moved). m.ok) e) refl)

-- a front over which no move is made
stops : {p : Place} {u : List ℕ} (v : List ℕ) {m : Moved} → m ≡ stay p → Moves p u m → Moves p (u ++ v) (stay p)
stops v e (Moves.moves s l) = absurd (never refl (ap (λ (m : Moved). m.ok) e))
stops v e (Moves.full x y k n) = Moves.full x (y ++ v) (cc (append_assoc x y v)) n

-- a front over which one is made: all is as the rest is from there
rest_follows : {p q : Place} (u v : List ℕ) → Moves p u (to q)
    → Moves p (u ++ v) (answer p (after q v)) × Moves q v (answer q (after q v))
unfolding moved
rest_follows {p} {q} u v a =
    let k = goes refl a in
    (rw (after_append u p q v k.2) at (decides p (u ++ v) k.0), decides q v k.1)

pub moves_compose : {p : Place} {u v : List ℕ} {m : Moved} → InTwo p u v m → Moves p (u ++ v) m
moves_compose {p} {u} {v} (InTwo.made {p = r} {q = q} a b) =
    let k = rest_follows u v a in subst (λ (o : Option Place). Moves p (u ++ v) (answer p o)) (goes refl b).2 k.0
moves_compose {v = v} (InTwo.first a) = stops v refl a
moves_compose {p} {u} {v} (InTwo.second {p = r} a b) =
    let k = rest_follows u v a in refused (after r v) (moves_one k.1 b) k.0
  where
    refused : (o : Option Place) → answer r o ≡ stay r → Moves p (u ++ v) (answer p o) → Moves p (u ++ v) (stay p)
    refused (Some q) e n = absurd (never refl (ap (λ (m : Moved). m.ok) e))
    refused None e n = n

pub moves_cut : {p : Place} (u v : List ℕ) {m : Moved} → Moves p (u ++ v) m → InTwo p u v m
unfolding moved
moves_cut {p} u v {m} a = go (keeps p)
  where
    -- the only answer
    only : {n : Moved} → Moves p (u ++ v) n → InTwo p u v n → InTwo p u v m
    only b t = subst (λ (n : Moved). InTwo p u v n) (moves_one b a) t

    further : {q : Place} (o : Option Place) → Moves p u (to q) → Moves p (u ++ v) (answer p o) × Moves q v (answer q o)
        → InTwo p u v m
    further (Some r) b k = only k.0 (InTwo.made b k.1)
    further None b k = only k.0 (InTwo.second b k.1)

    front : (o : Option Place) → Moves p u (answer p o) → InTwo p u v m
    front (Some q) b = further (after q v) b (rest_follows u v b)
    front None b = only (stops v refl b) (InTwo.first b)

    go : {o : Option Place} → Kept p o → InTwo p u v m
    go (Kept.is h) = front (after p u) (decides p u h)
    go (Kept.not n) = front None (Moves.full [] u refl (λ q l. n (led_held l)))
