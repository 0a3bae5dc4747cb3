-- What the bytes of a character of two, three or four say: that it is one, and that its number is no ASCII one. Assumes nothing.
use Rattle.std.proofs.Common.{◌≡◌, ℕ, ◌<◌, ◌≤◌, List, [], ◌∷◌, length, get_or, refl, ap, ⊎_elim, arith}
use Rattle.wat.specs.Utf8.{Range, ◌‥◌, table, Fits, done, next, Char, scalar}
use Rattle.wat.proofs.Utf8Rows.{char_of}
use Rattle.wat.proofs.Utf8Laws.{row_at}
use Rattle.wat.proofs.Scalars.{alone}
use Rattle.wat.proofs.Basics.{below}
use Rattle.utf8_chars.specs.Boundary.{Continues}
use Rattle.utf8_chars.specs.Fronts.{Second}

trail : {rs : List Range} {c : List ℕ} (b : ℕ) → Continues b → Fits rs c → Fits (0x80 ‥ 0xBF ∷ rs) (b ∷ c)
trail b h f = let k : b ≤ 0xBF = omega arith in next h.0 k f

pub char_2 : (a b : ℕ) → 0xC2 ≤ a → a < 0xE0 → Continues b → Char (a ∷ b ∷ [])
unfolding table
char_2 a b l h k = char_of a (0x80 ‥ 0xBF ∷ []) (b ∷ []) (row_at 1 0xC2 0xDF a _ (omega arith) refl l (omega arith)) (trail b k done)

module _ (a b : ℕ) (rs : List Range) (t : List ℕ) (f : Fits rs t) where
  by_row :
      (i lo hi l u : ℕ) → i < length table → get_or table i [] ≡ (lo ‥ hi ∷ l ‥ u ∷ rs) → lo ≤ a → a ≤ hi
      → l ≤ b → b ≤ u
      → Char (a ∷ b ∷ t)
  by_row i lo hi l u h e h₁ h₂ h₃ h₄ =
      char_of a (l ‥ u ∷ rs) (b ∷ t) (row_at i lo hi a (l ‥ u ∷ rs) h e h₁ h₂) (next h₃ h₄ f)

pub char_3 : (a b c : ℕ) → 0xE0 ≤ a → a < 0xF0 → Continues b → Second a b → Continues c → Char (a ∷ b ∷ c ∷ [])
unfolding table
char_3 a b c l h k z m =
    let row = by_row a b (0x80 ‥ 0xBF ∷ []) (c ∷ []) (trail c m done) in
    ⊎_elim (λ x. row 2 0xE0 0xE0 0xA0 0xBF (omega arith) refl l (omega arith) (z.after_e0 (omega arith)) (omega arith)) (λ x.
    ⊎_elim (λ y. row 3 0xE1 0xEC 0x80 0xBF (omega arith) refl x (omega arith) (omega arith) (omega arith)) (λ y.
    ⊎_elim (λ w. row 4 0xED 0xED 0x80 0x9F (omega arith) refl y (omega arith) (omega arith) (z.after_ed (omega arith))) (λ w.
    row 5 0xEE 0xEF 0x80 0xBF (omega arith) refl w (omega arith) (omega arith) (omega arith))
    (below a 0xEE)) (below a 0xED)) (below a 0xE1)

pub char_4 : (a b c d : ℕ) → 0xF0 ≤ a → a ≤ 0xF4 → Continues b → Second a b → Continues c → Continues d
    → Char (a ∷ b ∷ c ∷ d ∷ [])
unfolding table
char_4 a b c d l h k z m n =
    let row = by_row a b (0x80 ‥ 0xBF ∷ 0x80 ‥ 0xBF ∷ []) (c ∷ d ∷ []) (trail c m (trail d n done)) in
    ⊎_elim (λ x. row 6 0xF0 0xF0 0x90 0xBF (omega arith) refl l (omega arith) (z.after_f0 (omega arith)) (omega arith)) (λ x.
    ⊎_elim (λ y. row 7 0xF1 0xF3 0x80 0xBF (omega arith) refl x (omega arith) (omega arith) (omega arith)) (λ y.
    row 8 0xF4 0xF4 0x80 0x8F (omega arith) refl y h (omega arith) (z.after_f4 (omega arith)))
    (below a 0xF4)) (below a 0xF1)

pub wide_scalar : (c : List ℕ) → Char c → 0x80 ≤ get_or c 0 0 → 0x80 ≤ scalar c
wide_scalar c ch h =
    ⊎_elim (λ l. let first = ap (λ (t : List ℕ). get_or t 0 0) (alone c ch l) in absurd (omega arith)) (λ l. l) (below (scalar c) 0x80)
