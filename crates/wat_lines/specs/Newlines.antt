-- The standard's newline, and bytes read by it. `LineEnds` counts them.
use Rattle.std.specs.Prelude.{ℕ, ◌+◌, ◌≤◌, ◌≡◌, List, [], ◌∷◌, ◌++◌, length}

-- text/lexical.html, White Space: newline
pub data Newline : List ℕ → Type 0 where
  lf : Newline (0x0A ∷ [])
  cr : Newline (0x0D ∷ [])
  cr_lf : Newline (0x0D ∷ 0x0A ∷ [])

-- the bytes, read from left to right, with n newlines: where one stands the longest is taken, and else a byte
pub data Newlines : List ℕ → ℕ → Type 0 where
  none : Newlines [] 0
  newline : {w t : List ℕ} {n : ℕ} → Newline w → ((u v : List ℕ) → Newline u → u ++ v ≡ w ++ t → length u ≤ length w)
      → Newlines t n → Newlines (w ++ t) (1 + n)
  other : {x : ℕ} {t : List ℕ} {n : ℕ} → ((u v : List ℕ) → Newline u → u ++ v ≡ x ∷ t → ⊥) → Newlines t n
      → Newlines (x ∷ t) n
