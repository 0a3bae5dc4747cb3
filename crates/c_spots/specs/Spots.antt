-- Where, in words: the part that a reader's answer names, and the place counter.
use Rattle.std.specs.Prelude.{ℕ, ◌+◌, ◌≤◌, ◌<◌, ◌≡◌, Bool, true, false, not, List, [], ◌∷◌, eqb, length, get_or}
use Rattle.place.specs.declared.Place.{Place}
use Rattle.place.specs.Places.{Moves}

-- the second call, by an answer's words w: what is taken (1 the text, 3 the buffer), its start and its length, where it
-- lies there; else zeros
pub data PartWords (text buffer w : List ℕ) : List ℕ → Type 0 where
  in_text : get_or w 0 0 ≡ 1 → get_or w 1 0 + get_or w 2 0 ≤ length text
      → PartWords text buffer w (1 ∷ get_or w 1 0 ∷ get_or w 2 0 ∷ [])
  in_buffer : get_or w 0 0 ≡ 3 → get_or w 1 0 + get_or w 2 0 ≤ length buffer
      → PartWords text buffer w (3 ∷ get_or w 1 0 ∷ get_or w 2 0 ∷ [])
  none : (get_or w 0 0 ≡ 1 → length text < get_or w 1 0 + get_or w 2 0)
      → (get_or w 0 0 ≡ 3 → length buffer < get_or w 1 0 + get_or w 2 0) → PartWords text buffer w (0 ∷ 0 ∷ 0 ∷ [])

-- a part of n bytes, of the text or of the buffer as `what` says; zeros where it does not lie there
pub data Lies (what n start len : ℕ) : List ℕ → Type 0 where
  inside : start + len ≤ n → Lies what n start len (what ∷ start ∷ len ∷ [])
  outside : n < start + len → Lies what n start len (0 ∷ 0 ∷ 0 ∷ [])

-- the place counter in words: line, column, and whether the last byte passed is a CR, of which any word but 0 says yes
abbrev pub place_of : List ℕ → Place
place_of w = record { line = get_or w 0 0; column = get_or w 1 0; after_cr = not (eqb (get_or w 2 0) 0) }

abbrev pub words_of : Place → List ℕ
words_of p = p.line ∷ p.column ∷ elim p.after_cr [ true ↦ 1 | false ↦ 0 ] ∷ []

-- a move: the words of the place after it; refused, the words as they were
pub data MovedWords (place bytes : List ℕ) : Bool → List ℕ → Type 0 where
  moved : {p : Place} → Moves (place_of place) bytes (record { ok = true; place = p })
      → MovedWords place bytes true (words_of p)
  refused : Moves (place_of place) bytes (record { ok = false; place = place_of place })
      → MovedWords place bytes false place
