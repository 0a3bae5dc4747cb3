-- The model decides `Moves`. Assumes nothing.
use Prim.Native.Nat.{ℕ, suc, ◌+◌, ◌≤◌}
use mathlib.Core.Path.{◌≡◌, refl, ap}
use mathlib.Core.Bool.{Bool, true, false, ◌&&◌}
use mathlib.Core.List.{List, [], ◌∷◌, ◌++◌}
use Rattle.std.specs.Prelude.{Option, Some, None}
use native.Mathlib.Omega.{arith}
use lib.Dec.{leb}
use lib.ListN.{length}
use borrow.Author.Tests.{leb-true, leb-false}
use Rattle.place.specs.declared.Place.{Place}
use Rattle.wat.specs.Bytes.{Each}
use Rattle.wat.specs.Chars.{newline}
use Rattle.wat_lines.specs.LineEnds.{line_ends, ends_in_return}
use Rattle.place.specs.Places.{Column, Leads, Moves, answer}
use Rattle.wat.proofs.Basics.{differ}
use Rattle.place.specs.PlaceModel.{last, next_column, next_place, kept, step, after, moved}

-- a place that a counter holds
abbrev pub Held : Place → Type 0
Held p = (p.line ≤ last) × (p.column ≤ last)

pub data Kept (p : Place) : Option Place → Type 0 where
  is : Held p → Kept p (Some p)
  not : (Held p → ⊥) → Kept p None

pub keeps : (p : Place) → Kept p (kept p)
unfolding kept
keeps p = go (leb p.line last) refl (leb p.column last) refl
  where
    go : (l : Bool) → leb p.line last ≡ l → (c : Bool) → leb p.column last ≡ c
        → Kept p (elim (l && c) [ true ↦ Some p | false ↦ None ])
    go true e true f = Kept.is (leb-true p.line last e, leb-true p.column last f)
    go true e false f = Kept.not (λ h. omega (arith, h, leb-false p.column last f))
    go false e c f = Kept.not (λ h. omega (arith, h, leb-false p.line last e))

pub kept_is : (p : Place) → Held p → kept p ≡ Some p
kept_is p h = go (keeps p)
  where
    go : {o : Option Place} → Kept p o → o ≡ Some p
    go (Kept.is h) = refl
    go (Kept.not n) = absurd (n h)

pub kept_not : (p : Place) → (Held p → ⊥) → kept p ≡ None
kept_not p n = go (keeps p)
  where
    go : {o : Option Place} → Kept p o → o ≡ None
    go (Kept.is h) = absurd (n h)
    go (Kept.not m) = refl

-- ---- columns over one byte more, in front

column_on : {c n : ℕ} (x : ℕ) {w : List ℕ} → Column (next_column c x) w n → Column c (x ∷ w) n
unfolding next_column
column_on {c} x k = go (newline x) refl k
  where
    go : (b : Bool) {w : List ℕ} {n : ℕ} → newline x ≡ b → Column (elim b [ true ↦ 1 | false ↦ c + 1 ]) w n
        → Column c (x ∷ w) n
    go true e (Column.goes_on r) = Column.restarts [] x e r
    go false e (Column.goes_on {w = w} r) = let z : c + 1 + length w ≡ c + suc (length w) = omega arith in
        rw z (Column.goes_on (Each.next e r))
    go b e (Column.restarts v y n r) = Column.restarts (x ∷ v) y n r

column_off : {c : ℕ} (x : ℕ) {s w : List ℕ} {n : ℕ} → s ≡ x ∷ w → Column c s n → Column (next_column c x) w n
unfolding next_column
column_off x q (Column.goes_on Each.none) = differ (cc)
column_off {c} x {w = w} q (Column.goes_on (Each.next {x = y} {t = t} f r)) =
    let z : t ≡ w = cc in
    let e : y ≡ x = cc in
    let k : c + suc (length t) ≡ c + 1 + length w = omega (arith, ap length z) in
    rw (k, rw e at f, next_column) (Column.goes_on (rw z at r))
column_off x {w = w} q (Column.restarts [] y {w = t} n r) = let z : w ≡ t = cc in let e : y ≡ x = cc in
    rw (rw e at n, z, next_column) (Column.goes_on r)
column_off x {w = w} q (Column.restarts (b ∷ v) y {w = t} n r) = let z : w ≡ v ++ (y ∷ t) = cc in rw z (Column.restarts v y n r)

-- over no byte the column stays
pub stays : {c : ℕ} {s : List ℕ} {n : ℕ} → Column c s n → s ≡ [] → n ≡ c
stays (Column.goes_on Each.none) e = omega arith
stays (Column.goes_on (Each.next f r)) e = differ (cc)
stays (Column.restarts [] x n r) e = differ (cc)
stays (Column.restarts (y ∷ v) x n r) e = differ (cc)

-- ---- one byte

-- the byte x carries p to q: what bytes after it do from p with it, they do from q
record Carries (p : Place) (x : ℕ) (q : Place) : Type 0 where
  held : Held q
  joins : (u : List ℕ) (r : Place) → Leads q u r → Leads p (x ∷ u) r
  parts : (u : List ℕ) (r : Place) → Leads p (x ∷ u) r → Leads q u r

data Steps (p : Place) (x : ℕ) : Option Place → Type 0 where
  carried : {q : Place} → Carries p x q → Steps p x (Some q)
  full : ((r : Place) → Leads p (x ∷ []) r → ⊥) → Steps p x None

steps : (p : Place) (x : ℕ) → Steps p x (step p x)
unfolding line_ends ends_in_return
steps p x = go (keeps (next_place p x))
  where
    go : {o : Option Place} → Kept (next_place p x) o → Steps p x o
    go (Kept.is h) =
        Steps.carried {q = next_place p x}
        record {
          held = h;
          joins =
              λ u r l. record {
                line = omega (arith, l.line);
                column = column_on x l.column;
                after_cr = l.after_cr;
                holds = l.holds;
              };
          parts =
              λ u r l. record {
                line = omega (arith, l.line);
                column = column_off x refl l.column;
                after_cr = l.after_cr;
                holds = l.holds;
              };
        }
    go (Kept.not n) =
        Steps.full (λ r l. n
        (omega (arith, l.line, l.holds.0), omega (arith, stays (column_off x refl l.column) refl, l.holds.1)))

-- ---- all bytes

-- where the bytes lead, and that each start of them leads somewhere; or a start that leads nowhere
data Reach (p : Place) (w : List ℕ) : Option Place → Type 0 where
  there : {q : Place} → ((u v : List ℕ) → u ++ v ≡ w → (m : Place) × Leads p u m) → Leads p w q → Reach p w (Some q)
  nowhere : (u v : List ℕ) → u ++ v ≡ w → ((m : Place) → Leads p u m → ⊥) → Reach p w None

leads_none : (p : Place) → Held p → Leads p [] p
unfolding line_ends ends_in_return
leads_none p h = record { line = omega arith; column = here; after_cr = refl; holds = h }
  where
    here : Column p.column [] p.column
    here = let z : p.column + 0 ≡ p.column = omega arith in let k : Column p.column [] (p.column + 0) =
        Column.goes_on Each.none in rw z at k

reach : (w : List ℕ) (p : Place) → Held p → Reach p w (after p w)
unfolding after
reach [] p h = Reach.there start (leads_none p h)
  where
    start : (u v : List ℕ) → u ++ v ≡ [] → (m : Place) × Leads p u m
    start [] v e = (p, leads_none p h)
    start (y ∷ u) v e = differ (cc)
reach (x ∷ t) p h = go (step p x) refl (steps p x) (reach t)
  where
    start : {q : Place} → Carries p x q → ((u v : List ℕ) → u ++ v ≡ t → (m : Place) × Leads q u m) → (u v : List ℕ)
        → u ++ v ≡ x ∷ t → (m : Place) × Leads p u m
    start k s [] v e = (p, leads_none p h)
    start k s (y ∷ u) v e = let z : y ≡ x = cc in let m = s u v (cc) in rw z (m.0, k.joins u m.0 m.1)

    more : {q : Place} {o : Option Place} → Carries p x q → Reach q t o → Reach p (x ∷ t) o
    more k (Reach.there {q = r} s l) = Reach.there (start k s) (k.joins t r l)
    more k (Reach.nowhere u v e n) = Reach.nowhere (x ∷ u) v (cc) (λ m l. n m (k.parts u m l))

    go : (o : Option Place) → step p x ≡ o → Steps p x o → ((q : Place) → Held q → Reach q t (after q t))
        → Reach p (x ∷ t) (after p (x ∷ t))
    go _ e (Steps.carried {q = q} k) ih = rw (e, after) (more k (ih q k.held))
    go _ e (Steps.full n) ih = rw (e, after) (Reach.nowhere (x ∷ []) t refl n)

pub decides : (p : Place) (w : List ℕ) → Held p → Moves p w (moved p w)
unfolding moved
decides p w h = go (reach w p h)
  where
    go : {o : Option Place} → Reach p w o → Moves p w (answer p o)
    go (Reach.there s l) = Moves.moves s l
    go (Reach.nowhere u v e n) = Moves.full u v e n
