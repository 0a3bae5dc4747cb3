-- Where each byte up to a place follows the three before it as the rule says, the check may go on from the start of the last character that
-- is not whole yet. Assumes nothing.
use Rattle.std.proofs.Common.{◌≡◌, ℕ, zero, suc, ◌+◌, ◌<◌, ◌≤◌, List, length, get_or, drop, sym, refl, ◌∙◌, ⊎_elim, add-zero, arith}
use Rattle.wat.specs.Utf8Model.{scan, checked}
use Rattle.wat.proofs.Basics.{below}
use Rattle.utf8_chars.specs.Boundary.{Continues}
use Rattle.utf8_chars.specs.Fronts.{Second}
use Rattle.utf8_check.specs.Following.{Follows, Low, Right, Begins, Resumes}
use Rattle.utf8_check.proofs.ScanLaws.{scan_ascii}
use Rattle.utf8_chars.proofs.CharBytes.{char_2, char_3, char_4}
use Rattle.utf8_check.proofs.PassLaws.{pass_2, pass_3, pass_4}

-- the bytes r, q and p stand before a place, and the last k of them, from place i on, begin a character that is not whole yet

data Begun (s : List ℕ) (i : ℕ) : ℕ → ℕ → ℕ → ℕ → Type 0 where
  none : {r q p : ℕ} → p < 0xC0 → q < 0xE0 → r < 0xF0 → Begun s i 0 r q p
  one : {r q p : ℕ} → get_or s i 0 ≡ p → 0xC2 ≤ p → p ≤ 0xF4 → q < 0xC0 → Begun s i 1 r q p
  two : {r q p : ℕ} → get_or s i 0 ≡ q → get_or s (i + 1) 0 ≡ p → 0xE0 ≤ q → q ≤ 0xF4 → Continues p → Second q p
      → r < 0xC0 → Begun s i 2 r q p
  three :
      {r q p : ℕ} → get_or s i 0 ≡ r → get_or s (i + 1) 0 ≡ q → get_or s (i + 2) 0 ≡ p
      → 0xF0 ≤ r → r ≤ 0xF4 → Continues q → Second r q → Continues p
      → Begun s i 3 r q p

record State (s : List ℕ) (e r q p : ℕ) : Type 0 where
  i : ℕ
  k : ℕ
  here : i + k ≡ e
  begun : Begun s i k r q p
  same : scan i 0 (drop i s) ≡ checked s

-- one byte more

module _ (s : List ℕ) (i : ℕ) (g : scan i 0 (drop i s) ≡ checked s) where
  ended :
      (n e r q p : ℕ) → i + n ≡ e → scan (i + n) 0 (drop (i + n) s) ≡ scan i 0 (drop i s) → p < 0xC0 → q < 0xE0 → r < 0xF0
      → State s e r q p
  ended n e r q p h w a b c = record { i = i + n; k = 0; here = omega arith; begun = none a b c; same = w ∙ g }

  longer : (k e r q p : ℕ) → i + k ≡ e → Begun s i k r q p → State s e r q p
  longer k e r q p h o = record { i = i; k = k; here = h; begun = o; same = g }

  from_none : (r q p : ℕ) → p < 0xC0 → q < 0xE0 → r < 0xF0 → i < length s → Follows r q p (get_or s i 0)
      → State s (i + 1) q p (get_or s i 0)
  from_none r q p h₁ h₂ h₃ l f =
      let b = get_or s i 0 in
      ⊎_elim (λ x. ended 1 (i + 1) q p b refl (sym (scan_ascii s i l x)) (omega arith) (omega arith) (omega arith)) (λ x.
      ⊎_elim (λ y. absurd (f.first h₁ h₂ h₃ (x, y))) (λ y.
      let u = f.used y in
      longer 1 (i + 1) q p b refl (one refl u.0 u.1 h₁))
      (below b 0xC0)) (below b 0x80)

  step :
      {k r q p : ℕ} → Begun s i k r q p → i + k < length s → Follows r q p (get_or s (i + k) 0)
      → State s (i + k + 1) q p (get_or s (i + k) 0)
  step {r = r} {q = q} {p = p} (none h₁ h₂ h₃) l f = rw add-zero (from_none r q p h₁ h₂ h₃ (omega arith) (rw add-zero at f))
  step {q = q} {p = p} (one e lo hi h) l f =
      let b = get_or s (i + 1) 0 in
      let c : Continues b = f.second (omega arith) in
      ⊎_elim (λ x.
      ended 2 (i + 1 + 1) q p b (omega arith)
      (pass_2 s i (omega arith) (char_2 (get_or s i 0) b (omega arith) (omega arith) c)) (omega arith) x (omega arith))
      (λ x. longer 2 (i + 1 + 1) q p b (omega arith) (two e refl x hi c f.ranged h)) (below p 0xE0)
  step {q = q} {p = p} (two e₁ e₂ lo hi c z h) l f =
      let b = get_or s (i + 2) 0 in
      let d : Continues b = f.third lo in
      let z' : Second (get_or s i 0) (get_or s (i + 1) 0) = rw (e₁, e₂) z in
      ⊎_elim (λ x.
      ended 3 (i + 2 + 1) q p b (omega arith)
      (pass_3 s i (omega arith) (char_3 (get_or s i 0) (get_or s (i + 1) 0) b (omega arith) (omega arith) (omega arith) z' d))
      (omega arith) (omega arith) x)
      (λ x. longer 3 (i + 2 + 1) q p b (omega arith) (three e₁ e₂ refl x hi c z d)) (below q 0xF0)
  step {q = q} {p = p} (three e₁ e₂ e₃ lo hi c z d) l f =
      let b = get_or s (i + 3) 0 in
      let w : Continues b = f.fourth lo in
      let z' : Second (get_or s i 0) (get_or s (i + 1) 0) = rw (e₁, e₂) z in
      ended 4 (i + 3 + 1) q p b (omega arith)
      (pass_4 s i (omega arith)
      (char_4 (get_or s i 0) (get_or s (i + 1) 0) (get_or s (i + 2) 0) b (omega arith) (omega arith) (omega arith) z' (omega arith) w))
      (omega arith) (omega arith) (omega arith)

module _ (s : List ℕ) where
  onward : {e r q p : ℕ} → State s e r q p → e < length s → Follows r q p (get_or s e 0) → State s (e + 1) q p (get_or s e 0)
  onward t = rw (← t.here) (step s t.i t.same t.begun)

  began : State s 0 0 0 0
  unfolding checked
  began = record { i = 0; k = 0; here = refl; begun = none {r = 0} {q = 0} {p = 0} (omega arith) (omega arith) (omega arith); same = refl }

  three_stand : 3 ≤ length s → Begins (get_or s 0 0) (get_or s 1 0) (get_or s 2 0) → State s 3 (get_or s 0 0) (get_or s 1 0) (get_or s 2 0)
  three_stand l h = onward (onward (onward began (omega arith) h.one) (omega arith) h.two) (omega arith) h.three

  one_stands :
      (i : ℕ) → i + 3 < length s → Follows (get_or s i 0) (get_or s (i + 1) 0) (get_or s (i + 2) 0) (get_or s (i + 3) 0)
      → State s (i + 3) (get_or s i 0) (get_or s (i + 1) 0) (get_or s (i + 2) 0)
      → State s (suc i + 3) (get_or s (suc i) 0) (get_or s (suc i + 1) 0) (get_or s (suc i + 2) 0)
  one_stands i l f t =
      let n₀ : suc i ≡ i + 1 = omega arith in
      let n₁ : i + 1 + 1 ≡ i + 2 = omega arith in
      let n₂ : i + 1 + 2 ≡ i + 3 = omega arith in
      let n₃ : i + 1 + 3 ≡ i + 3 + 1 = omega arith in
      rw (n₀, n₁, n₂, n₃) (onward t l f)

  -- after each byte that stands right
  stands :
      Begins (get_or s 0 0) (get_or s 1 0) (get_or s 2 0) → (i : ℕ) → i + 3 ≤ length s → Right s 0 i
      → State s (i + 3) (get_or s i 0) (get_or s (i + 1) 0) (get_or s (i + 2) 0)
  stands h zero l f = three_stand l h
  stands h (suc i) l f =
      one_stands i (omega arith) (f i (omega arith) (omega arith)) (stands h i (omega arith) (λ m a b. f m a (omega arith)))

-- how many bytes have begun is seen from the bytes

record Count (k r q p : ℕ) : Type 0 where
  last : 0xC0 ≤ p → k ≡ 1
  second : p < 0xC0 → 0xE0 ≤ q → k ≡ 2
  third : p < 0xC0 → q < 0xE0 → 0xF0 ≤ r → k ≡ 3
  all : p < 0xC0 → q < 0xE0 → r < 0xF0 → k ≡ 0

count : {s : List ℕ} {i k r q p : ℕ} → Begun s i k r q p → Count k r q p
count (none a b c) = record {
  last = λ x. absurd (omega arith);
  second = λ x y. absurd (omega arith);
  third = λ x y w. absurd (omega arith);
  all = λ _ _ _. refl;
}
count (one e lo hi h) = record {
  last = λ _. refl;
  second = λ x y. absurd (omega arith);
  third = λ x y w. absurd (omega arith);
  all = λ x y w. absurd (omega arith);
}
count (two e₁ e₂ lo hi c z h) = record {
  last = λ x. absurd (omega arith);
  second = λ _ _. refl;
  third = λ x y w. absurd (omega arith);
  all = λ x y w. absurd (omega arith);
}
count (three e₁ e₂ e₃ lo hi c z d) = record {
  last = λ x. absurd (omega arith);
  second = λ x y. absurd (omega arith);
  third = λ _ _ _. refl;
  all = λ x y w. absurd (omega arith);
}

module _ (s : List ℕ) (i : ℕ) (h : Begins (get_or s 0 0) (get_or s 1 0) (get_or s 2 0)) (l : i + 3 ≤ length s) (f : Right s 0 i) where
  goes_on : (at n : ℕ) → at + n ≡ i + 3 → (stands s h i l f).k ≡ n → Resumes s at
  goes_on at n e q =
      let t = stands s h i l f in
      let w : at ≡ t.i = omega (arith, t.here) in
      record { within = omega arith; same = rw w t.same }

  counted : Count (stands s h i l f).k (get_or s i 0) (get_or s (i + 1) 0) (get_or s (i + 2) 0)
  counted = count (stands s h i l f).begun

  pub from_last : 0xC0 ≤ get_or s (i + 2) 0 → Resumes s (i + 2)
  from_last a = goes_on (i + 2) 1 (omega arith) (counted.last a)

  pub from_second : get_or s (i + 2) 0 < 0xC0 → 0xE0 ≤ get_or s (i + 1) 0 → Resumes s (i + 1)
  from_second a b = goes_on (i + 1) 2 (omega arith) (counted.second a b)

  pub from_third : get_or s (i + 2) 0 < 0xC0 → get_or s (i + 1) 0 < 0xE0 → 0xF0 ≤ get_or s i 0 → Resumes s i
  from_third a b c = goes_on i 3 (omega arith) (counted.third a b c)

  pub from_end : get_or s (i + 2) 0 < 0xC0 → get_or s (i + 1) 0 < 0xE0 → get_or s i 0 < 0xF0 → Resumes s (i + 3)
  from_end a b c = goes_on (i + 3) 0 (omega arith) (counted.all a b c)

pub ruleset befores = (from_last, from_second, from_third, from_end)

pub from_start : (s : List ℕ) → Resumes s 0
unfolding checked
from_start s = record { within = omega arith; same = refl }

-- past ASCII bytes

pub past_ascii : (s : List ℕ) (i : ℕ) → i < length s → get_or s i 0 < 0x80 → Resumes s i → Resumes s (i + 1)
past_ascii s i h l r = record { within = omega arith; same = sym (scan_ascii s i h l) ∙ r.same }

pub past_low : (s : List ℕ) (i n to : ℕ) → to ≡ i + n → to ≤ length s → Low s i to → Resumes s i → Resumes s to
past_low s i zero to e h l r = let here : to ≡ i = omega arith in rw here r
past_low s i (suc n) to e h l r =
    let next : to ≡ i + n + 1 = omega arith in
    let before = past_low s i n (i + n) refl (omega arith) (λ m a b. l m a (omega arith)) r in
    rw next (past_ascii s (i + n) (omega arith) (l (i + n) (omega arith) (omega arith)) before)
