-- The table of characters, row by row: the row that `find` finds, and bytes against its ranges. Assumes nothing.
use Prim.Native.Nat.{ℕ, zero, suc, ◌+◌, ◌≤◌, ◌<◌}
use mathlib.Core.Path.{◌≡◌, refl, sym, ap, ◌∙◌}
use mathlib.Core.Logic.{⊎_elim}
use mathlib.Core.List.Memᴰ
use mathlib.Core.List.{List, [], ◌∷◌, ◌++◌, Memᴰ}
use mathlib.Core.Option.{some}
use mathlib.Core.Bool.{Bool, true, false}
use native.Mathlib.Omega.{arith}
use native.Mathlib.Nat.{add-zero}
use lib.Dec.{leb}
use lib.ListN.{length, take}
use borrow.Author.Tests.{le-leb, lt-leb, leb-true}
use Rattle.wat.specs.Utf8.{Range, ◌‥◌, table, Fits, done, next, Char}
use Rattle.wat.specs.declared.Front.{Front}
use Rattle.wat.specs.declared.Front.TheVariants.{Whole, Wrong, Cut}
use Rattle.wat.specs.Utf8Model.{pick, has, find, follow}
use Rattle.wat.proofs.Basics.{never}

-- a test and its two answers

pub has_in : (lo hi b : ℕ) → lo ≤ b → b ≤ hi → has (lo ‥ hi) b ≡ true
has_in lo hi b h k = rw (le-leb lo b h, le-leb b hi k)

pub has_over : (lo hi b : ℕ) → hi < b → has (lo ‥ hi) b ≡ false
has_over lo hi b h = go (leb lo b)
  where
    go : (x : Bool) → pick x (leb b hi) false ≡ false
    go true = lt-leb b hi h
    go false = refl

pub has_true : (lo hi b : ℕ) → has (lo ‥ hi) b ≡ true → (lo ≤ b) × (b ≤ hi)
has_true lo hi b = go (leb lo b) refl
  where
    go : (x : Bool) → leb lo b ≡ x → pick x (leb b hi) false ≡ true → (lo ≤ b) × (b ≤ hi)
    go true e h = (leb-true lo b e, leb-true b hi h)
    go false e h = let z : true ≡ false = sym h in absurd (let q : ◌≡◌ {A = ℕ} 0 1 = cc in omega arith)

-- the table's first ranges rise, and no range is empty

abbrev pub proper : List Range → Bool
proper [] = true
proper (lo ‥ hi ∷ rs) = pick (leb lo hi) (proper rs) false

abbrev pub rising : ℕ → List (List Range) → Bool
rising n [] = true
rising n ([] ∷ t) = false
rising n ((lo ‥ hi ∷ rs) ∷ t) = pick (leb n lo) (pick (proper (lo ‥ hi ∷ rs)) (rising (suc hi) t) false) false

pub table_rising : rising 0 table ≡ true
unfolding table
table_rising = refl

-- a listed row is the one that `find` finds

pub pick_both : (x y : Bool) → pick x y false ≡ true → (x ≡ true) × (y ≡ true)
pick_both true y h = (refl, h)
pick_both false y h = absurd (never h refl)

pub find_listed :
    (t : List (List Range)) (n : ℕ) → rising n t ≡ true → {lo hi b : ℕ} {rs : List Range} → Memᴰ (lo ‥ hi ∷ rs) t
    → lo ≤ b → b ≤ hi → (n ≤ b) × (find t b ≡ some rs)
find_listed [] n s m h k = absurd (Memᴰ.not-nil m)
find_listed ([] ∷ t) n s m h k = absurd (never s refl)
find_listed ((lo' ‥ hi' ∷ rs') ∷ t) n s {lo} {hi} {b} {rs} m h k =
    let s₁ = pick_both (leb n lo') _ s in
    let s₂ = pick_both (proper (lo' ‥ hi' ∷ rs')) _ s₁.1 in
    let s₃ = pick_both (leb lo' hi') _ s₂.0 in
    ⊎_elim (λ e.
    let e₁ : lo ≡ lo' = cc in
    let e₂ : hi ≡ hi' = cc in
    let e₃ : rs ≡ rs' = cc in
    let low : n ≤ lo' = leb-true n lo' s₁.0 in
    (omega arith, rw (has_in lo' hi' b (omega arith) (omega arith)) (ap some (sym e₃))))
    (λ m'.
    let r = find_listed t (suc hi') s₂.1 m' h k in
    let low : n ≤ lo' = leb-true n lo' s₁.0 in
    let all : lo' ≤ hi' = leb-true lo' hi' s₃.0 in
    (omega arith, rw (has_over lo' hi' b r.0) r.1))
    (Memᴰ.cases_cons m)

-- what `find` finds is listed, and no range of it is empty

pub record Found (t : List (List Range)) (b : ℕ) (rs : List Range) : Type 0 where
  pub lo : ℕ
  pub hi : ℕ
  pub listed : Memᴰ (lo ‥ hi ∷ rs) t
  pub low : lo ≤ b
  pub high : b ≤ hi
  pub full : proper rs ≡ true

pub find_some : (t : List (List Range)) (n b : ℕ) (rs : List Range) → rising n t ≡ true → find t b ≡ some rs → Found t b rs
find_some [] n b rs s e = absurd (let z : ◌≡◌ {A = ℕ} 0 1 = cc in omega arith)
find_some ([] ∷ t) n b rs s e = absurd (never s refl)
find_some ((lo ‥ hi ∷ rs') ∷ t) n b rs s e = go (has (lo ‥ hi) b) refl e (find_some t (suc hi) b rs s₂.1)
  where
    s₁ : (leb n lo ≡ true) × (pick (proper (lo ‥ hi ∷ rs')) (rising (suc hi) t) false ≡ true)
    s₁ = pick_both (leb n lo) _ s

    s₂ : (proper (lo ‥ hi ∷ rs') ≡ true) × (rising (suc hi) t ≡ true)
    s₂ = pick_both (proper (lo ‥ hi ∷ rs')) _ s₁.1

    go :
        (x : Bool) → has (lo ‥ hi) b ≡ x → pick x (some rs') (find t b) ≡ some rs → (find t b ≡ some rs → Found t b rs)
        → Found ((lo ‥ hi ∷ rs') ∷ t) b rs
    go true h e ih =
        let e' : rs' ≡ rs = cc in
        record {
          lo = lo;
          hi = hi;
          listed = Memᴰ.head (ap (λ (r : List Range). lo ‥ hi ∷ r) (sym e'));
          low = (has_true lo hi b h).0;
          high = (has_true lo hi b h).1;
          full = rw (← e') (pick_both (leb lo hi) _ s₂.0).1;
        }
    go false h e ih =
        let f = ih e in
        record { lo = f.lo; hi = f.hi; listed = Memᴰ.tail f.listed; low = f.low; high = f.high; full = f.full }

-- ranges against bytes

pub fits_length : {rs : List Range} {c : List ℕ} → Fits rs c → length c ≡ length rs
fits_length done = refl
fits_length (next h k f) = ap suc (fits_length f)

pub completed : (rs : List Range) → proper rs ≡ true → (q : List ℕ) × Fits rs q
completed [] p = ([], done)
completed (lo ‥ hi ∷ rs) p =
    let p' = pick_both (leb lo hi) _ p in
    let r = completed rs p'.1 in
    let h : lo ≤ lo = omega arith in
    (lo ∷ r.0, next h (leb-true lo hi p'.0) r.1)

pub fits_head : {lo hi b : ℕ} {rs : List Range} {c : List ℕ} → Fits (lo ‥ hi ∷ rs) (b ∷ c)
    → (lo ≤ b) × (b ≤ hi) × Fits rs c
fits_head (next h k f) = (h, k, f)

pub data Follow (k : ℕ) (rs : List Range) (t : List ℕ) (f : Front) : Type 0 where
  whole : (c u : List ℕ) → t ≡ c ++ u → Fits rs c → f ≡ Whole (k + length c) → Follow k rs t f
  cut : (q : List ℕ) → Fits rs (t ++ q) → 0 < length q → f ≡ Cut → Follow k rs t f
  wrong :
      (n : ℕ) (q : List ℕ) → n < length t → Fits rs (take n t ++ q) → 0 < length q
      → ((m : ℕ) (p : List ℕ) → m ≤ length t → Fits rs (take m t ++ p) → m ≤ n) → f ≡ Wrong (k + n) → Follow k rs t f

pub followed : (k : ℕ) (rs : List Range) (t : List ℕ) → proper rs ≡ true → Follow k rs t (follow k rs t)
followed k [] t p = whole [] t refl done (ap Whole (sym (add-zero k)))
followed k (lo ‥ hi ∷ rs) [] p =
    let r = completed (lo ‥ hi ∷ rs) p in
    cut r.0 r.1 (omega (arith, fits_length r.1)) refl
followed k (lo ‥ hi ∷ rs) (b ∷ t) p = go (has (lo ‥ hi) b) refl (followed (suc k) rs t (pick_both (leb lo hi) _ p).1)
  where
    up : {f : Front} → (lo ≤ b) × (b ≤ hi) → Follow (suc k) rs t f → Follow k (lo ‥ hi ∷ rs) (b ∷ t) f
    up h (whole c u e f g) = whole (b ∷ c) u (ap (λ (l : List ℕ). b ∷ l) e) (next h.0 h.1 f) (g ∙ ap Whole (omega arith))
    up h (cut q f l g) = cut q (next h.0 h.1 f) l g
    up h (wrong n q l f o m g) =
        wrong (suc n) q (omega arith) (next h.0 h.1 f) o (elim [
          | zero ↦ λ r _ _. omega arith
          | suc j ↦ λ r z y. let v = m j r (omega arith) (fits_head y).2 in omega arith
        ]) (g ∙ ap Wrong (omega arith))

    go :
        (x : Bool) → has (lo ‥ hi) b ≡ x → Follow (suc k) rs t (follow (suc k) rs t)
        → Follow k (lo ‥ hi ∷ rs) (b ∷ t) (pick x (follow (suc k) rs t) (Wrong k))
    go true h v = up (has_true lo hi b h) v
    go false h v =
        let r = completed (lo ‥ hi ∷ rs) p in
        wrong 0 r.0 (omega arith) r.1 (omega (arith, fits_length r.1)) (elim [
          | zero ↦ λ q _ _. omega arith
          | suc j ↦ λ q z y. absurd (never (has_in lo hi b (fits_head y).0 (fits_head y).1) h)
        ]) (ap Wrong (sym (add-zero k)))

-- the first byte of a character decides its row

pub char_tail : {b : ℕ} {c : List ℕ} → Char (b ∷ c) → (rs : List Range) × (find table b ≡ some rs) × Fits rs c
char_tail {b} {c} ch = go ch.fits ch.listed
  where
    go : {row : List Range} → Fits row (b ∷ c) → Memᴰ row table
        → (rs : List Range) × (find table b ≡ some rs) × Fits rs c
    go (next {rs = rs} h k f) m = (rs, (find_listed table 0 table_rising m h k).1, f)

pub char_known : (b : ℕ) (c : List ℕ) (rs : List Range) → find table b ≡ some rs → Char (b ∷ c) → Fits rs c
char_known b c rs e ch =
    let r = char_tail ch in
    let e₁ : find table b ≡ some r.0 = r.1 in
    let e₂ : r.0 ≡ rs = cc in
    rw e₂ at r.2

pub char_of : (b : ℕ) (rs : List Range) (c : List ℕ) → find table b ≡ some rs → Fits rs c → Char (b ∷ c)
char_of b rs c e f =
    let w = find_some table 0 b rs table_rising e in
    record { row = w.lo ‥ w.hi ∷ rs; listed = w.listed; fits = next w.low w.high f }

rising_full : (t : List (List Range)) (n : ℕ) → rising n t ≡ true → Memᴰ [] t → ⊥
rising_full [] n s m = Memᴰ.not-nil m
rising_full ([] ∷ t) n s m = never s refl
rising_full ((lo ‥ hi ∷ rs) ∷ t) n s m =
    let s₁ = pick_both (leb n lo) _ s in
    let s₂ = pick_both (proper (lo ‥ hi ∷ rs)) _ s₁.1 in
    ⊎_elim (λ e. let z : ◌≡◌ {A = ℕ} 0 1 = cc in omega arith) (λ m'. rising_full t (suc hi) s₂.1 m')
    (Memᴰ.cases_cons m)

pub char_full : Char [] → ⊥
char_full ch = go ch.fits ch.listed
  where
    go : {row : List Range} → Fits row [] → Memᴰ row table → ⊥
    go done m = rising_full table 0 table_rising m
