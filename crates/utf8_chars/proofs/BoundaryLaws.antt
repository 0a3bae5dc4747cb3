-- A character's first byte is none from 0x80 to 0xBF, and its later bytes are: so one byte tells whether a character starts at a place of
-- a well-formed text. Assumes nothing.
use Rattle.std.proofs.Common.{◌≡◌, ℕ, zero, suc, ◌+◌, ◌-◌, ◌<◌, ◌≤◌, Bool, true, false, leb, List, [], ◌∷◌, length}
use Rattle.std.proofs.Common.{get_or, drop, refl, ⊎_elim, arith, length-append, drop_of_length-le, drop-cons}
use Rattle.std.proofs.Common.{get_or-append-add, leb-true}
use lib.ListN.{get_or-append}
use lib.Seq.{drop-append-add}
use Rattle.wat.specs.Utf8.{Range, ◌‥◌, table, Fits, done, next, Char, WellFormed, empty, more}
use Rattle.wat.specs.Utf8Model.{pick}
use Rattle.wat.proofs.Utf8Rows.{char_full, pick_both}
use Rattle.wat.proofs.Basics.{never, differ, below}
use Rattle.wat.proofs.ScalarValues.{All, all_listed}
use Rattle.utf8_chars.specs.Boundary.{Continues, Boundary}

-- the table's ranges

abbrev trailing : List Range → Bool
trailing [] = true
trailing (lo ‥ hi ∷ rs) = pick (leb 0x80 lo) (pick (leb hi 0xBF) (trailing rs) false) false

abbrev leading : List Range → Bool
leading [] = false
leading (lo ‥ hi ∷ rs) = pick (pick (leb hi 0x7F) true (leb 0xC0 lo)) (trailing rs) false

table_leading : All (λ row. leading row ≡ true) table
unfolding table
table_leading = (refl, (refl, (refl, (refl, (refl, (refl, (refl, (refl, (refl, tt)))))))))

fits_trailing : {rs : List Range} {c : List ℕ} → Fits rs c → trailing rs ≡ true → (i : ℕ) → i < length c
    → Continues (get_or c i 0)
fits_trailing done e i h = absurd (omega arith)
fits_trailing (next {lo = lo} {hi = hi} {b = b} l k f) e zero h =
    let p = pick_both (leb 0x80 lo) _ e in
    let q = pick_both (leb hi 0xBF) _ p.1 in
    let x : 0x80 ≤ lo = leb-true 0x80 lo p.0 in
    let y : hi ≤ 0xBF = leb-true hi 0xBF q.0 in
    (omega arith, omega arith)
fits_trailing (next {lo = lo} {hi = hi} {b = b} l k f) e (suc i) h =
    let p = pick_both (leb 0x80 lo) _ e in
    let q = pick_both (leb hi 0xBF) _ p.1 in
    fits_trailing f q.1 i (omega arith)

-- a character's bytes
record Bytes (b : ℕ) (c : List ℕ) : Type 0 where
  first : Continues b → ⊥
  later : (i : ℕ) → i < length c → Continues (get_or c i 0)

char_bytes : (b : ℕ) (c : List ℕ) → Char (b ∷ c) → Bytes b c
char_bytes b c ch = go ch.fits (all_listed (λ row. leading row ≡ true) table table_leading ch.listed)
  where
    outer : (lo hi : ℕ) (x : Bool) → leb hi 0x7F ≡ x → pick x true (leb 0xC0 lo) ≡ true → lo ≤ b → b ≤ hi
        → Continues b → ⊥
    outer lo hi true e p l k q = let y = leb-true hi 0x7F e in omega arith
    outer lo hi false e p l k q = let y = leb-true 0xC0 lo p in omega arith

    go : {row : List Range} → Fits row (b ∷ c) → leading row ≡ true → Bytes b c
    go (next {lo = lo} {hi = hi} l k f) e =
        let p = pick_both (pick (leb hi 0x7F) true (leb 0xC0 lo)) _ e in
        record { first = outer lo hi (leb hi 0x7F) refl p.0 l k; later = fits_trailing f p.1 }

-- no well-formed text starts with such a byte
pub starts_not : (b : ℕ) (t : List ℕ) → Continues b → WellFormed (b ∷ t) → ⊥
starts_not b t q g = go g refl
  where
    go : {s : List ℕ} → WellFormed s → s ≡ b ∷ t → ⊥
    go empty e = differ (cc)
    go (more {c = []} ch g) e = char_full ch
    go (more {c = x ∷ c} ch g) e = let y : x ≡ b = cc in (char_bytes x c ch).first (rw y q)

-- where another byte stands, the rest is well formed
pub starts_at : {s : List ℕ} → WellFormed s → (at : ℕ) → at < length s → (Continues (get_or s at 0) → ⊥)
    → WellFormed (drop at s)
starts_at empty at h n = absurd (omega arith)
starts_at (more {c = c} {t = t} ch g) zero h n = more ch g
starts_at (more {c = []} {t = t} ch g) (suc at) h n = absurd (char_full ch)
starts_at (more {c = x ∷ c} {t = t} ch g) (suc at) h n =
    ⊎_elim (λ l. absurd (n (rw (get_or-append c t 0 at l) ((char_bytes x c ch).later at l))))
    (λ l.
    let q : at ≡ length c + (at - length c) = omega arith in
    rw (q, drop-append-add c t (at - length c))
    (starts_at g (at - length c) (omega (arith, length-append c t)) (rw (q, get_or-append-add c t (at - length c) 0) at n)))
    (below at (length c))

module _ (s : List ℕ) (at : ℕ) (g : WellFormed s) where
  pub boundary_end : length s ≤ at → Boundary s at true
  boundary_end h = record { yes = λ _. rw (drop_of_length-le s h) empty; only = λ _. refl }

  pub boundary_start : at < length s → (Continues (get_or s at 0) → ⊥) → Boundary s at true
  boundary_start h n = record { yes = λ _. starts_at g at h n; only = λ _. refl }

  pub boundary_inside : at < length s → Continues (get_or s at 0) → Boundary s at false
  boundary_inside h q =
      record {
        yes = λ e. absurd (never e refl);
        only = λ w. absurd (starts_not (get_or s at 0) (drop (suc at) s) q (rw (drop-cons s at 0 h) at w));
      }
