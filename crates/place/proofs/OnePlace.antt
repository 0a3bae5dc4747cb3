-- A move of the place counter has one answer. Assumes nothing.
use Prim.Native.Nat.{ℕ}
use mathlib.Core.Path.{◌≡◌, refl, sym, ap, ◌∙◌}
use mathlib.Core.Bool.{true, false}
use mathlib.Core.List.{List, [], ◌∷◌, ◌++◌}
use Rattle.place.specs.declared.Place.{Place}
use Rattle.wat.specs.Bytes.{Each}
use Rattle.wat.specs.Chars.{newline}
use Rattle.std.specs.Prelude.{Option, Some, None}
use Rattle.place.specs.Places.{Column, Leads, Moved, Moves, answer}
use Rattle.wat.proofs.Basics.{differ, never}

-- no CR and no LF stands among bytes that are none
unbroken : (v : List ℕ) (x : ℕ) (w : List ℕ) {s : List ℕ} → newline x ≡ true → Each newline false s → s ≡ v ++ (x ∷ w)
    → ⊥
unbroken [] x w n Each.none e = differ (cc)
unbroken [] x w n (Each.next {x = y} p r) e = let z : y ≡ x = cc in never n (rw z at p)
unbroken (y ∷ v) x w n Each.none e = differ (cc)
unbroken (y ∷ v) x w n (Each.next p r) e = unbroken v x w n r (cc)

-- what follows the last of them
last_line : (v v' : List ℕ) (x x' : ℕ) {w w' : List ℕ} → newline x ≡ true → newline x' ≡ true → Each newline false w
    → Each newline false w' → v ++ (x ∷ w) ≡ v' ++ (x' ∷ w') → w ≡ w'
last_line [] [] x x' m n a b e = cc
last_line [] (y ∷ v') x x' {w' = w'} m n a b e = absurd (unbroken v' x' w' n a (cc))
last_line (y ∷ v) [] x x' {w = w} m n a b e = absurd (unbroken v x w m b (cc))
last_line (y ∷ v) (z ∷ v') x x' m n a b e = last_line v v' x x' m n a b (cc)

columns_one : {c : ℕ} {s t : List ℕ} {n m : ℕ} → Column c s n → Column c t m → s ≡ t → n ≡ m
columns_one (Column.goes_on a) (Column.goes_on b) e = cc
columns_one (Column.goes_on a) (Column.restarts v x {w = w} n b) e = absurd (unbroken v x w n a e)
columns_one (Column.restarts v x {w = w} m a) (Column.goes_on b) e = absurd (unbroken v x w m b (sym e))
columns_one (Column.restarts v x m a) (Column.restarts v' x' n b) e = let z = last_line v v' x x' m n a b e in cc

pub same_place : {p q : Place} → p.line ≡ q.line → p.column ≡ q.column → p.after_cr ≡ q.after_cr → p ≡ q
same_place l c r = λ i. record { line = l i; column = c i; after_cr = r i }

pub leads_one : {from p q : Place} {w : List ℕ} → Leads from w p → Leads from w q → p ≡ q
leads_one a b =
    same_place (a.line ∙ sym b.line) (columns_one a.column b.column refl) (a.after_cr ∙ sym b.after_cr)

pub moves_one : {from : Place} {w : List ℕ} {a b : Moved} → Moves from w a → Moves from w b → a ≡ b
moves_one (Moves.moves h l) (Moves.moves h' l') = let z = leads_one l l' in cc
moves_one (Moves.moves h l) (Moves.full u v e n) = let p = h u v e in absurd (n p.0 p.1)
moves_one (Moves.full u v e n) (Moves.moves h l) = let p = h u v e in absurd (n p.0 p.1)
moves_one (Moves.full u v e n) (Moves.full u' v' e' n') = refl

answer_one : (p : Place) (a b : Option Place) → answer p a ≡ answer p b → a ≡ b
answer_one p (Some q) (Some r) e = ap (λ (m : Moved). Some m.place) e
answer_one p (Some q) None e = absurd (never (sym (ap (λ (m : Moved). m.ok) e)) refl)
answer_one p None (Some q) e = absurd (never (ap (λ (m : Moved). m.ok) e) refl)
answer_one p None None e = refl

-- and so has the call that answers the place alone
pub move_one : {from : Place} {w : List ℕ} {a b : Option Place} → Moves from w (answer from a)
    → Moves from w (answer from b) → a ≡ b
move_one {from} {a = a} {b = b} x y = answer_one from a b (moves_one x y)
