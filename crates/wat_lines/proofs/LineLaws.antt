-- Line ends are the standard's newlines, read from left to right, and may be counted piece by piece. Assumes nothing.
use Prim.Native.Nat.{ℕ, ◌+◌, ◌≤◌}
use mathlib.Core.Path.{◌≡◌, refl, sym, ap, ◌∙◌}
use mathlib.Core.Bool.{Bool, true, false}
use mathlib.Core.List.{List, [], ◌∷◌, ◌++◌}
use native.Mathlib.Omega.{arith}
use lib.ListN.{length}
use borrow.Author.Tests.{eqb-true, eqb-false, ne_eqb}
use Rattle.wat_lines.specs.LineEnds.{line_feed, carriage_return, begins, line_ends, ends_in_return}
use Rattle.wat_lines.specs.Newlines.{Newline, Newlines}

-- ---- piece by piece

pub ends_append : (cr : Bool) (u v : List ℕ) → line_ends cr (u ++ v) ≡ line_ends cr u + line_ends (ends_in_return cr u) v
unfolding line_ends ends_in_return
ends_append cr [] v = omega arith
ends_append cr (x ∷ u) v = omega (arith, ends_append (carriage_return x) u v)

pub return_append : (cr : Bool) (u v : List ℕ) → ends_in_return cr (u ++ v) ≡ ends_in_return (ends_in_return cr u) v
unfolding ends_in_return
return_append cr [] v = refl
return_append cr (x ∷ u) v = return_append (carriage_return x) u v

-- ---- a byte is CR, LF or another

pub data LineByte : ℕ → Type 0 where
  cr : LineByte 0x0D
  lf : LineByte 0x0A
  other : {x : ℕ} → (x ≡ 0x0D → ⊥) → (x ≡ 0x0A → ⊥) → LineByte x

pub line_byte : (x : ℕ) → LineByte x
line_byte x = go (carriage_return x) refl (line_feed x) refl
  where
    go : (c : Bool) → carriage_return x ≡ c → (l : Bool) → line_feed x ≡ l → LineByte x
    go true e l f = rw (eqb-true x 0x0D e) LineByte.cr
    go false e true f = rw (eqb-true x 0x0A f) LineByte.lf
    go false e false f = LineByte.other (eqb-false x 0x0D e) (eqb-false x 0x0A f)

-- ---- the standard's newlines

-- a byte that is neither adds none
passed : (b : Bool) (x : ℕ) (t : List ℕ) → (x ≡ 0x0D → ⊥) → (x ≡ 0x0A → ⊥) → line_ends b (x ∷ t) ≡ line_ends false t
unfolding line_ends begins
passed b x t c l = rw (ne_eqb x 0x0D c, ne_eqb x 0x0A l, line_ends, begins) (omega arith)

-- what stands before counts only for a LF
unless_lf : {x : ℕ} (t : List ℕ) → LineByte x → (x ≡ 0x0A → ⊥) → line_ends true (x ∷ t) ≡ line_ends false (x ∷ t)
unfolding line_ends begins
unless_lf t LineByte.cr l = refl
unless_lf t LineByte.lf l = absurd (l refl)
unless_lf t (LineByte.other {x} c l) _ = passed true x t c l ∙ sym (passed false x t c l)

-- the longest newline at the front
longest_cr : (t : List ℕ) → ((r : List ℕ) → t ≡ 0x0A ∷ r → ⊥) → (u v : List ℕ) → Newline u → u ++ v ≡ 0x0D ∷ t
    → length u ≤ 1
longest_cr t k _ v Newline.lf e = omega arith
longest_cr t k _ v Newline.cr e = omega arith
longest_cr t k _ v Newline.cr_lf e = absurd (k v (cc))

longest_lf : (t u v : List ℕ) → Newline u → u ++ v ≡ 0x0A ∷ t → length u ≤ 1
longest_lf t _ v Newline.lf e = omega arith
longest_lf t _ v Newline.cr e = omega arith
longest_lf t _ v Newline.cr_lf e = absurd (let z : ◌≡◌ {A = ℕ} 0x0D 0x0A = cc in omega arith)

longest_cr_lf : (t u v : List ℕ) → Newline u → u ++ v ≡ 0x0D ∷ 0x0A ∷ t → length u ≤ 2
longest_cr_lf t _ v Newline.lf e = omega arith
longest_cr_lf t _ v Newline.cr e = omega arith
longest_cr_lf t _ v Newline.cr_lf e = omega arith

no_newline : (x : ℕ) (t : List ℕ) → (x ≡ 0x0D → ⊥) → (x ≡ 0x0A → ⊥)
    → (u v : List ℕ) → Newline u → u ++ v ≡ x ∷ t → ⊥
no_newline x t c l _ v Newline.lf e = l (cc)
no_newline x t c l _ v Newline.cr e = c (cc)
no_newline x t c l _ v Newline.cr_lf e = c (cc)

-- the bytes, and the bytes after a CR
read : (w : List ℕ) → Newlines w (line_ends false w) × Newlines (0x0D ∷ w) (1 + line_ends true w)
unfolding line_ends begins
read [] =
    (Newlines.none, Newlines.newline Newline.cr (longest_cr [] (λ r (e : [] ≡ 0x0A ∷ r). omega (arith, ap length e))) Newlines.none)
read (x ∷ t) = go (line_byte x) (read t)
  where
    -- a CR that no LF follows is a newline of its own
    after : {x : ℕ} → LineByte x → (x ≡ 0x0A → ⊥) → Newlines (x ∷ t) (line_ends false (x ∷ t))
        → Newlines (0x0D ∷ x ∷ t) (1 + line_ends true (x ∷ t))
    after {x} w l n =
        rw (unless_lf t w l) (Newlines.newline Newline.cr (longest_cr (x ∷ t) (λ r (e : x ∷ t ≡ 0x0A ∷ r). l (cc))) n)

    go : {x : ℕ} → LineByte x → Newlines t (line_ends false t) × Newlines (0x0D ∷ t) (1 + line_ends true t)
        → Newlines (x ∷ t) (line_ends false (x ∷ t)) × Newlines (0x0D ∷ x ∷ t) (1 + line_ends true (x ∷ t))
    go LineByte.cr ih = (ih.1, after LineByte.cr (λ e. omega arith) ih.1)
    go LineByte.lf ih = let z : begins true 0x0A + line_ends false t ≡ line_ends false t = omega arith in
        (Newlines.newline Newline.lf (longest_lf t) ih.0, rw z (Newlines.newline Newline.cr_lf (longest_cr_lf t) ih.0))
    go (LineByte.other {x} c l) ih =
        let n : Newlines (x ∷ t) (line_ends false (x ∷ t)) = rw (passed false x t c l) (Newlines.other (no_newline x t c l) ih.0) in
        (n, after (LineByte.other c l) l n)

-- bytes have as many line ends as newlines, and no other number of these
pub ends_read : (w : List ℕ) → Newlines w (line_ends false w)
ends_read w = (read w).0

-- and those after a CR are what it and the bytes have, but for its own
pub ends_read_on : (w : List ℕ) → Newlines (0x0D ∷ w) (1 + line_ends true w)
ends_read_on w = (read w).1

pub newlines_ends : {w : List ℕ} {n : ℕ} → Newlines w n → n ≡ line_ends false w
unfolding line_ends begins
newlines_ends Newlines.none = refl
newlines_ends (Newlines.newline Newline.lf k r) = omega (arith, newlines_ends r)
newlines_ends (Newlines.newline Newline.cr_lf k r) = omega (arith, newlines_ends r)
newlines_ends (Newlines.newline {t = t} Newline.cr k r) = omega (arith, same t k, newlines_ends r)
  where
    same : (t : List ℕ) → ((u v : List ℕ) → Newline u → u ++ v ≡ 0x0D ∷ t → length u ≤ 1)
        → line_ends true t ≡ line_ends false t
    same [] k = refl
    same (y ∷ t) k =
        unless_lf t (line_byte y) (λ e. let z : 2 ≤ 1 = k (0x0D ∷ 0x0A ∷ []) t Newline.cr_lf (rw e) in omega arith)
newlines_ends (Newlines.other {x} {t} k r) =
    newlines_ends r ∙ sym (passed false x t
    (λ e. k (0x0D ∷ []) t Newline.cr (rw e)) (λ e. k (0x0A ∷ []) t Newline.lf (rw e)))
