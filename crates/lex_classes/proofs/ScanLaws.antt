-- How a scan goes on and stops, over the test and the Boolean. Assumes nothing.
use Prim.Native.Nat.{ℕ, zero, suc, ◌+◌, ◌-◌, ◌≤◌, ◌<◌}
use mathlib.Core.Path.{◌≡◌, refl, sym, ap, ◌∙◌}
use mathlib.Core.Bool.{Bool, true, false, not}
use mathlib.Core.List.{List, [], ◌∷◌, ◌++◌}
use native.Mathlib.Omega.{arith}
use lib.ListN.{length, get_or, take, drop, length-drop, take-append-drop, drop_of_length-le}
use lib.Seq.{drop-cons, drop-drop, get_or-drop, length-take-le}
use Rattle.wat.specs.Bytes.{Each, none, next}
use Rattle.wat.specs.LexModel.{count}
use Rattle.lex_classes.specs.Scan.{Scanned, Passed}

pub count_each : {test : ℕ → Bool} {b : Bool} {w : List ℕ} (u : List ℕ) → Each test b w
    → count test b (w ++ u) ≡ length w + count test b u
unfolding count
count_each {test} {b} u none = omega arith
count_each {test} {b} u (next {x = x} {t = w} e r) = go b e (count_each u r)
  where
    go : (b : Bool) → test x ≡ b → count test b (w ++ u) ≡ length w + count test b u
        → count test b (x ∷ (w ++ u)) ≡ suc (length w) + count test b u
    go true e i = rw (e, count) (omega arith)
    go false e i = rw (e, count) (omega arith)

pub count_stop : (test : ℕ → Bool) (b : Bool) (x : ℕ) (t : List ℕ) → test x ≡ not b → count test b (x ∷ t) ≡ 0
unfolding count
count_stop test true x t e = rw (e, count)
count_stop test false x t e = rw (e, count)

-- what a scan passes
count_at : (test : ℕ → Bool) (b : Bool) (s : List ℕ) (k : ℕ) → k < count test b s → test (get_or s k 0) ≡ b
unfolding count
count_at test b [] k h = absurd (omega arith)
count_at test b (x ∷ s) k h = go b (test x) refl k h (count_at test b s)
  where
    go :
        (b c : Bool) → test x ≡ c → (k : ℕ) → k < count test b (x ∷ s)
        → ((j : ℕ) → j < count test b s → test (get_or s j 0) ≡ b)
        → test (get_or (x ∷ s) k 0) ≡ b
    go true true e zero h ih = e
    go true true e (suc k) h ih = ih k (let q : suc k < suc (count test true s) = rw (e, count) at h in omega arith)
    go true false e k h ih = absurd (let q : k < 0 = rw (e, count) at h in omega arith)
    go false true e k h ih = absurd (let q : k < 0 = rw (e, count) at h in omega arith)
    go false false e zero h ih = e
    go false false e (suc k) h ih = ih k (let q : suc k < suc (count test false s) = rw (e, count) at h in omega arith)

-- what stops a scan
pub count_next : (test : ℕ → Bool) (b : Bool) (s : List ℕ) → count test b s < length s
    → test (get_or s (count test b s) 0) ≡ not b
unfolding count
count_next test b [] h = absurd (omega arith)
count_next test b (x ∷ s) h = go b (test x) refl h (count_next test b s)
  where
    go :
        (b c : Bool) → test x ≡ c → count test b (x ∷ s) < suc (length s)
        → (count test b s < length s → test (get_or s (count test b s) 0) ≡ not b)
        → test (get_or (x ∷ s) (count test b (x ∷ s)) 0) ≡ not b
    go true true e h ih = rw (e, count) (ih (let q : suc (count test true s) < suc (length s) = rw (e, count) at h in omega arith))
    go true false e h ih = rw (e, count) e
    go false true e h ih = rw (e, count) e
    go false false e h ih = rw (e, count) (ih (let q : suc (count test false s) < suc (length s) = rw (e, count) at h in omega arith))

module _ (test : ℕ → Bool) (b : Bool) (s : List ℕ) (at : ℕ) where
  pub passed_none : at ≤ length s → Passed test b s at at
  passed_none h = record { on = omega arith; same = refl; within = h }

  -- n bytes more
  pub passed_more : (i n : ℕ) → Passed test b s at i → i + n ≤ length s → Each test b (take n (drop i s))
      → Passed test b s at (i + n)
  passed_more i n p h e =
      let w = take n (drop i s) in
      let l : length w ≡ n = length-take-le n (drop i s) (omega (arith, length-drop i s)) in
      let q : count test b (w ++ drop n (drop i s)) ≡ length w + count test b (drop n (drop i s)) = count_each (drop n (drop i s)) e in
      let r : count test b (drop i s) ≡ n + count test b (drop (i + n) s) = rw (take-append-drop, drop-drop, l) at q in
      record { on = omega (arith, p.on); same = omega (arith, p.same); within = h }

  -- one byte more
  pub passed_one : (i : ℕ) → Passed test b s at i → i < length s → test (get_or s i 0) ≡ b → Passed test b s at (i + 1)
  passed_one i p h e = passed_more i 1 p (omega arith) (rw (drop-cons s i 0 h) (next e none))

  pub passed_stop : (i : ℕ) → Passed test b s at i → i < length s → test (get_or s i 0) ≡ not b → Scanned test b s at i
  passed_stop i p h e =
      let z : count test b (drop i s) ≡ 0 = ap (count test b) (drop-cons s i 0 h) ∙ count_stop test b (get_or s i 0) (drop (suc i) s) e in
      record { end = omega (arith, p.same); within = p.within }

  pub passed_end : (i : ℕ) → Passed test b s at i → length s ≤ i → Scanned test b s at i
  unfolding count
  passed_end i p h =
      let z : count test b (drop i s) ≡ 0 = ap (count test b) (drop_of_length-le s h) in
      record { end = omega (arith, p.same); within = p.within }

-- what is known of the bytes before a scan's answer, and of the one at it
module _ (test : ℕ → Bool) (b : Bool) (s : List ℕ) (at r : ℕ) (p : Scanned test b s at r) where
  pub scanned_at : (k : ℕ) → at ≤ k → k < r → test (get_or s k 0) ≡ b
  scanned_at k h l =
      let n = k - at in
      let q : k ≡ at + n = omega arith in
      ap (λ (m : ℕ). test (get_or s m 0)) q ∙ ap test (sym (get_or-drop at s n 0))
      ∙ count_at test b (drop at s) n (omega (arith, p.end))

  pub scanned_next : r < length s → test (get_or s r 0) ≡ not b
  scanned_next h =
      ap (λ (m : ℕ). test (get_or s m 0)) p.end ∙ ap test (sym (get_or-drop at s (count test b (drop at s)) 0))
      ∙ count_next test b (drop at s) (omega (arith, length-drop at s, p.end))

-- from i on, by another scan
module _ (test : ℕ → Bool) (b : Bool) (s : List ℕ) (at i r : ℕ) (p : Passed test b s at i) where
  pub passed_then : Passed test b s i r → Passed test b s at r
  passed_then q = record { on = omega (arith, p.on, q.on); same = q.same ∙ p.same; within = q.within }

  pub scanned_then : Scanned test b s i r → Scanned test b s at r
  scanned_then q = record { end = q.end ∙ p.same; within = q.within }

-- what a scan's loop keeps, and its answers
pub ruleset scans = (passed_none, passed_one, passed_stop, passed_end, scanned_then)
