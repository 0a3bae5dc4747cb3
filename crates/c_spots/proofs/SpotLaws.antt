-- The part that an answer's words name, by its cases: it is one, and so is the moved counter. Assumes nothing.
use Prim.Native.Nat.{ℕ}
use mathlib.Core.Path.{◌≡◌, refl, ap}
use mathlib.Core.Bool.{Bool, true, false, not}
use mathlib.Core.List.{List, [], ◌∷◌, ◌++◌}
use native.Mathlib.Omega.{arith}
use lib.Dec.{eqb}
use mir.Val.{bool_byte}
use lib.ListN.{length, get_or}
use Rattle.std.specs.Prelude.{Some, None}
use Rattle.place.specs.declared.Place.{Place}
use Rattle.place.specs.Places.{Moved, Moves, answer}
use Rattle.wat.proofs.Basics.{never}
use Rattle.place.proofs.OnePlace.{same_place, moves_one}
use Rattle.place.proofs.PieceLaws.{moves_compose}
use Rattle.place.specs.Pieces.{InTwo}
use Rattle.c_spots.specs.Spots.{PartWords, Lies, MovedWords, place_of, words_of}

module _ {text buffer w : List ℕ} where
  pub of_text : {v : List ℕ} → get_or w 0 0 ≡ 1 → Lies 1 (length text) (get_or w 1 0) (get_or w 2 0) v → PartWords text buffer w v
  of_text e (Lies.inside h) = PartWords.in_text e h
  of_text e (Lies.outside h) = PartWords.none (λ q. h) (λ q. absurd (omega arith))

  pub of_buffer : {v : List ℕ} → get_or w 0 0 ≡ 3 → Lies 3 (length buffer) (get_or w 1 0) (get_or w 2 0) v → PartWords text buffer w v
  of_buffer e (Lies.inside h) = PartWords.in_buffer e h
  of_buffer e (Lies.outside h) = PartWords.none (λ q. absurd (omega arith)) (λ q. h)

pub of_neither : {text buffer w : List ℕ} → (get_or w 0 0 ≡ 1 → ⊥) → (get_or w 0 0 ≡ 3 → ⊥)
    → PartWords text buffer w (0 ∷ 0 ∷ 0 ∷ [])
of_neither p q = PartWords.none (λ e. absurd (p e)) (λ e. absurd (q e))

-- the second call has one answer
pub part_words_one : {text buffer w u v : List ℕ} → PartWords text buffer w u → PartWords text buffer w v → u ≡ v
part_words_one (PartWords.in_text e h) (PartWords.in_text f k) = refl
part_words_one (PartWords.in_text e h) (PartWords.in_buffer f k) = absurd (omega arith)
part_words_one (PartWords.in_text e h) (PartWords.none t b) = absurd (omega (arith, t e))
part_words_one (PartWords.in_buffer e h) (PartWords.in_text f k) = absurd (omega arith)
part_words_one (PartWords.in_buffer e h) (PartWords.in_buffer f k) = refl
part_words_one (PartWords.in_buffer e h) (PartWords.none t b) = absurd (omega (arith, b e))
part_words_one (PartWords.none t b) (PartWords.in_text f k) = absurd (omega (arith, t f))
part_words_one (PartWords.none t b) (PartWords.in_buffer f k) = absurd (omega (arith, b f))
part_words_one (PartWords.none t b) (PartWords.none u c) = refl

-- the words of a move, and of one that is refused
pub of_moved : {place bytes : List ℕ} {p : Place} → Moves (place_of place) bytes (answer (place_of place) (Some p))
    → MovedWords place bytes true (p.line ∷ p.column ∷ bool_byte p.after_cr ∷ [])
of_moved {p = p} m = rw (flag p.after_cr) (MovedWords.moved m)
  where
    flag : (b : Bool) → bool_byte b ≡ elim b [ true ↦ 1 | false ↦ 0 ]
    flag true = refl
    flag false = refl

pub of_refused : {place bytes : List ℕ} → Moves (place_of place) bytes (answer (place_of place) None)
    → MovedWords place bytes false place
of_refused m = MovedWords.refused m

pub moved_words_one : {place bytes p q : List ℕ} {a b : Bool} → MovedWords place bytes a p → MovedWords place bytes b q
    → (a ≡ b) × (p ≡ q)
moved_words_one (MovedWords.moved x) (MovedWords.moved y) = (refl, ap (λ (m : Moved). words_of m.place) (moves_one x y))
moved_words_one (MovedWords.moved x) (MovedWords.refused y) = absurd (never (ap (λ (m : Moved). m.ok) (moves_one y x)) refl)
moved_words_one (MovedWords.refused x) (MovedWords.moved y) = absurd (never (ap (λ (m : Moved). m.ok) (moves_one x y)) refl)
moved_words_one (MovedWords.refused x) (MovedWords.refused y) = (refl, refl)

-- a place is told by its words
place_words : (p : Place) → place_of (words_of p) ≡ p
place_words p = same_place refl refl (go p.after_cr)
  where
    go : (b : Bool) → not (eqb (elim b [ true ↦ 1 | false ↦ 0 ]) 0) ≡ b
    go true = refl
    go false = refl

-- two calls, the second with the words that the first left, are one over all bytes; if either is refused, so is that one
pub moved_words_compose : {place u v p q : List ℕ} {b : Bool} → MovedWords place u true p → MovedWords p v b q
    → MovedWords place (u ++ v) b (elim b [ true ↦ q | false ↦ place ])
moved_words_compose (MovedWords.moved {p = p} x) (MovedWords.moved y) =
    MovedWords.moved (moves_compose (InTwo.made x (rw (place_words p) at y)))
moved_words_compose (MovedWords.moved {p = p} x) (MovedWords.refused y) =
    MovedWords.refused (moves_compose (InTwo.second x (rw (place_words p) at y)))

pub moved_words_stop : {place u p : List ℕ} (v : List ℕ) → MovedWords place u false p → MovedWords place (u ++ v) false place
moved_words_stop v (MovedWords.refused x) = MovedWords.refused (moves_compose (InTwo.first x))

-- for the tactics

pub ruleset lies = (Lies.inside, Lies.outside)

pub ruleset parts = (of_text, of_buffer, of_neither)

pub ruleset moves = (of_moved, of_refused)
