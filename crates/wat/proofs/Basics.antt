-- Small laws of general use: what cannot be, tests of numbers and lists. Assumes nothing.
use Prim.Native.Nat.{ℕ, ◌+◌, ◌≤◌, ◌<◌}
use mathlib.Core.Path.{◌≡◌, refl, ap}
use mathlib.Core.Logic.{◌⊎◌, inl, inr, ⊎_elim}
use mathlib.Core.List.Memᴰ
use mathlib.Core.List.{List, [], ◌∷◌, ◌++◌, Memᴰ}
use mathlib.Core.Bool.{Bool, true, false, ◌&&◌, ◌||◌}
use native.Mathlib.Omega.{arith}
use lib.Dec.{leb, ltb, eqb}
use lib.ListN.{length, drop}
use lib.Seq.{drop-append_seam}
use borrow.Author.Tests.{le-leb, lt-leb, leb-true, ltb-true, ltb-false, eqb-true}
use Rattle.std.specs.Prelude.{Result, Err}
use Rattle.wat.specs.declared.{LexError.LexError, Fault.Fault, Refusal.Refusal, Refused.Refused}
use Rattle.wat.specs.Faults.{fault, shift}
use Rattle.wat.specs.Bytes.{between, has}

-- anything follows where two constructors that differ are equal: `differ (cc)`
pub differ : {A : Type 0} → ◌≡◌ {A = ℕ} 0 1 → A
differ z = absurd (let y = z in omega arith)

-- no test has both answers
pub never : {x : Bool} → x ≡ true → x ≡ false → ⊥
never p q = let z : ◌≡◌ {A = ℕ} 0 1 = cc in omega arith

-- ---- tests of a number

pub between_in : (lo hi b : ℕ) → lo ≤ b → b ≤ hi → between lo hi b ≡ true
unfolding between
between_in lo hi b h k = rw (le-leb lo b h, le-leb b hi k)

pub between_under : (lo hi b : ℕ) → b < lo → between lo hi b ≡ false
unfolding between
between_under lo hi b h = rw (lt-leb lo b h)

pub between_over : (lo hi b : ℕ) → hi < b → between lo hi b ≡ false
unfolding between
between_over lo hi b h = go (leb lo b)
  where
    go : (x : Bool) → x && leb b hi ≡ false
    go true = lt-leb b hi h
    go false = refl

pub between_true : (lo hi b : ℕ) → between lo hi b ≡ true → (lo ≤ b) × (b ≤ hi)
unfolding between
between_true lo hi b e = go (leb lo b) refl e
  where
    go : (x : Bool) → leb lo b ≡ x → x && leb b hi ≡ true → (lo ≤ b) × (b ≤ hi)
    go true p q = (leb-true lo b p, leb-true b hi q)
    go false p q = absurd (never q refl)

pub below : (n m : ℕ) → (n < m) ⊎ (m ≤ n)
below n m = go (ltb n m) refl
  where
    go : (x : Bool) → ltb n m ≡ x → (n < m) ⊎ (m ≤ n)
    go true e = inl (ltb-true n m e)
    go false e = inr (ltb-false n m e)

-- ---- lists

pub cut_off : (u : List ℕ) {s t : List ℕ} → u ++ s ≡ u ++ t → s ≡ t
cut_off u {s} {t} e = cc (drop-append_seam u s, drop-append_seam u t, ap (drop (length u)) e)

-- a property of each pair of a table, and so of each that is listed
abbrev pub AllPairs : (ℕ → ℕ → Type 0) → List (ℕ × ℕ) → Type 0
AllPairs P [] = Unit {0}
AllPairs P (p ∷ t) = P p.0 p.1 × AllPairs P t

pub pairs_listed : (P : ℕ → ℕ → Type 0) (t : List (ℕ × ℕ)) {p : ℕ × ℕ} → AllPairs P t → Memᴰ p t
    → P p.0 p.1
pairs_listed P [] a m = absurd (Memᴰ.not-nil m)
pairs_listed P (r ∷ t) a m = ⊎_elim (λ e. rw e a.0) (λ m'. pairs_listed P t a.1 m') (Memᴰ.cases_cons m)

-- a property of each byte of a list, and so of each that the list has
abbrev Every : (ℕ → Type 0) → List ℕ → Type 0
Every P [] = Unit {0}
Every P (x ∷ xs) = P x × Every P xs

pub has_every : (P : ℕ → Type 0) (l : List ℕ) (c : ℕ) → Every P l → has c l ≡ true → P c
unfolding has
has_every P [] c a e = differ (cc)
has_every P (x ∷ xs) c a e = go (eqb x c) refl (has_every P xs c a.1)
  where
    go : (b : Bool) → eqb x c ≡ b → (has c xs ≡ true → P c) → P c
    go true h k = rw (eqb-true x c h) at a.0
    go false h k = k (rw h at e)

-- ---- faults

pub fault_same : (e : LexError) {a b c d : ℕ} → a ≡ c → b ≡ d → fault e a b ≡ fault e c d
fault_same e p q = λ i. fault e (p i) (q i)

pub shift_none : (f : Fault) → shift 0 f ≡ f
shift_none f = fault_same f.error (omega arith) (omega arith)

pub shift_shift : (n m : ℕ) (f : Fault) → shift n (shift m f) ≡ shift (n + m) f
shift_shift n m f = fault_same f.error (omega arith) (omega arith)

pub or_split : (a b : Bool) → a || b ≡ true → (a ≡ true) ⊎ (b ≡ true)
or_split true b e = inl refl
or_split false b e = inr e

-- a byte that begins nothing
pub or_no : (a b : Bool) → a || b ≡ false → (a ≡ false) × (b ≡ false)
or_no true b e = absurd (never refl e)
or_no false b e = (refl, e)

-- equal refusals have the same reason, at the same place
pub refused_same : {T : Type 0} {r r' : Refusal} {p p' : ℕ}
    → ◌≡◌ {A = Result T Refused} (Err (record { refusal = r; place = p })) (Err (record { refusal = r'; place = p' }))
    → (r ≡ r') × (p ≡ p')
refused_same {r = r} {r' = r'} {p = p} {p' = p'} e =
    let d : ◌≡◌ {A = Refused} (record { refusal = r; place = p }) (record { refusal = r'; place = p' }) = cc in
    (ap (λ (x : Refused). x.refusal) d, ap (λ (x : Refused). x.place) d)
