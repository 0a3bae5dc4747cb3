-- A search over places, of which a block is looked at together: how it goes on and what it finds; and what that says of a scan
-- over bytes. Assumes nothing.
use Prim.Native.Nat.{ℕ, zero, suc, ◌+◌, ◌-◌, min, ◌≤◌, ◌<◌}
use mathlib.Core.Path.{◌≡◌, refl, sym, subst, ◌∙◌}
use mathlib.Core.Logic.{◌⊎◌, inl, inr}
use mathlib.Core.Bool.{Bool, true, false, not}
use mathlib.Core.List.{List}
use native.Mathlib.Omega.{arith}
use lib.Dec.{ltb}
use lib.ListN.{length, get_or}
use borrow.Author.Tests.{ltb-true, ltb-false, not-true, not-false}
use Rattle.std.specs.Prelude.{Option, Some, None, unwrap_or}
use Rattle.lex_classes.specs.Scan.{Scanned, Passed, Clear, First, Earliest, Finds, alike}
use Rattle.lex_classes.proofs.ScanLaws.{passed_none, passed_one, passed_stop, passed_end, scanned_then}

-- ---- places of which none passes

module _ (f : ℕ → Bool) (i j : ℕ) where
  pub clear_none : j ≤ i → Clear f i j
  clear_none h = record { none = λ k a l. absurd (omega (arith, a, l)) }

  pub clear_then : (to : ℕ) → Clear f i j → Clear f j to → Clear f i to
  clear_then to p q = record { none = λ k a l. go k a l (ltb k j) refl }
    where
      go : (k : ℕ) → i ≤ k → k < to → (c : Bool) → ltb k j ≡ c → f k ≡ false
      go k a l true e = p.none k a (ltb-true k j e)
      go k a l false e = q.none k (ltb-false k j e) l

  -- fewer places
  pub clear_upto : (to : ℕ) → to ≤ j → Clear f i j → Clear f i to
  clear_upto to h p = record { none = λ k a l. p.none k a (omega (arith, h, l)) }

  -- one place more
  pub clear_one : (to : ℕ) → to ≡ j + 1 → Clear f i j → f j ≡ false → Clear f i to
  clear_one to e p q =
      clear_then to p (record { none = λ k a l. subst (λ (x : ℕ). f x ≡ false) (omega (arith, a, l)) q })

-- what holds at i, and behind each place of which it holds and that does not pass, holds at j
pub clear_carries : (P : ℕ → Type 0) (f : ℕ → Bool) (i j : ℕ) → i ≤ j → Clear f i j → P i
    → ((k : ℕ) → k < j → P k → f k ≡ false → P (k + 1)) → P j
clear_carries P f i j h c p step = go (j - i) j (omega arith) (omega arith)
  where
    go : (n to : ℕ) → to ≡ i + n → to ≤ j → P to
    go zero to e l = subst P (omega arith) p
    go (suc n) to e l =
        subst P (omega arith) (step (i + n) (omega arith) (go n (i + n) refl (omega arith)) (c.none (i + n) (omega arith) (omega arith)))

-- ---- the least place of a block

-- a search for the first of n places from i on that passes: after k of them it is m, and n stands for none
abbrev pub Least : (ℕ → Bool) → ℕ → ℕ → ℕ → ℕ → Type 0
Least f i n k m = ((m ≡ n) × Clear f i (i + k)) ⊎ ((m < k) × (Clear f i (i + m) × (f (i + m) ≡ true)))

module _ (f : ℕ → Bool) (i n : ℕ) where
  pub least_none : Least f i n 0 n
  least_none = inl (refl, clear_none f i (i + 0) (omega arith))

  -- the next place, which counts as v: as itself, if it passes, and as n if not
  pub least_next :
      (k m m' v : ℕ) (c : Bool) → k < n → Least f i n k m → c ≡ f (i + k)
      → ((c ≡ true) × (v ≡ k)) ⊎ ((c ≡ false) × (v ≡ n)) → m' ≡ min m v → Least f i n (k + 1) m'
  least_next k m m' v c h l q b g = go l b
    where
      found : (x : ℕ) → x ≡ m' → x < k + 1 → Clear f i (i + x) × (f (i + x) ≡ true) → Least f i n (k + 1) m'
      found x e z p = inr (omega arith, subst (λ (y : ℕ). Clear f i (i + y) × (f (i + y) ≡ true)) e p)

      go : Least f i n k m → ((c ≡ true) × (v ≡ k)) ⊎ ((c ≡ false) × (v ≡ n)) → Least f i n (k + 1) m'
      go (inl (e, p)) (inl (t, w)) = found k (omega arith) (omega arith) (p, sym q ∙ t)
      go (inl (e, p)) (inr (t, w)) = inl (omega arith, clear_one f i (i + k) (i + (k + 1)) (omega arith) p (sym q ∙ t))
      go (inr (z, p)) (inl (t, w)) = found m (omega arith) (omega arith) p
      go (inr (z, p)) (inr (t, w)) = found m (omega arith) (omega arith) p

  pub least_first : (k m : ℕ) → k ≡ n → Least f i n k m → First f i n m
  least_first k m e (inl (g, p)) =
      record {
        within = omega arith;
        clear = subst (λ (x : ℕ). Clear f i (i + x)) (omega arith) p;
        stops = λ h. absurd (omega (arith, h));
      }
  least_first k m e (inr (z, (p, q))) = record { within = omega arith; clear = p; stops = λ _. q }

  -- a block of which no place passes
  pub first_clear : (r : ℕ) → First f i n r → n ≤ r → Clear f i (i + n)
  first_clear r p h = record { none = λ k a l. p.clear.none k a (omega (arith, l)) }

-- ---- what a search finds

module _ (f : ℕ → Bool) (at : ℕ) where
  -- the first of a block of n places from i on, where none before i passes
  pub sought_block : (i n r : ℕ) → at ≤ i → Clear f at i → First f i n r → r < n → Earliest f at (i + n) (i + r)
  sought_block i n r h p q l =
      record { on = omega (arith, h); before = omega (arith, l); clear = clear_then f at i (i + r) p q.clear; passes = q.stops l }

  -- before a later place
  pub earliest_upto : (m to k : ℕ) → m ≤ to → Earliest f at m k → Earliest f at to k
  earliest_upto m to k h q = record { on = q.on; before = omega (arith, q.before); clear = q.clear; passes = q.passes }

  -- where nothing passes from m on
  pub finds_upto : (m to : ℕ) (o : Option ℕ) → m ≤ to → Clear f m to → Finds f at m o → Finds f at to o
  finds_upto m to None h c q = clear_then f at m to q c
  finds_upto m to (Some k) h c q = earliest_upto m to k h q

  -- from i on, by another search
  pub finds_then : (i to : ℕ) (o : Option ℕ) → at ≤ i → Clear f at i → Finds f i to o → Finds f at to o
  finds_then i to None h p q = clear_then f at i to p q
  finds_then i to (Some k) h p q =
      record { on = omega (arith, q.on, h); before = q.before; clear = clear_then f at i k p q.clear; passes = q.passes }

-- ---- bytes

module _ (test : ℕ → Bool) (s : List ℕ) (i j : ℕ) (h : i ≤ j) (l : j ≤ length s) where
  -- where a place that does not pass has a byte that passes the test as `b`
  clear_passed : (b : Bool) (f : ℕ → Bool) → ((k : ℕ) → f k ≡ false → test (get_or s k 0) ≡ b) → Clear f i j
      → Passed test b s i j
  clear_passed b f t p =
      clear_carries (λ k. Passed test b s i k) f i j h p (passed_none test b s i (omega arith))
      (λ k z q e. passed_one test b s i k q (omega (arith, z)) (t k e))

  pub none_passed : Clear (λ k. test (get_or s k 0)) i j → Passed test false s i j
  none_passed p = clear_passed false (λ k. test (get_or s k 0)) (λ k e. e) p

-- a byte that does not pass as b
abbrev pub other : (ℕ → Bool) → Bool → List ℕ → ℕ → Bool
other test b s k = alike (not b) (test (get_or s k 0))

other_no : (b c : Bool) → alike (not b) c ≡ false → c ≡ b
other_no true c e = not-false c e
other_no false c e = e

other_is : (b c : Bool) → alike (not b) c ≡ true → c ≡ not b
other_is true c e = not-true c e
other_is false c e = e

module _ (test : ℕ → Bool) (b : Bool) (s : List ℕ) (at : ℕ) where
  -- no byte before `to` is such a one
  clear_scans : (to : ℕ) → at ≤ to → to ≤ length s → Clear (other test b s) at to → Passed test b s at to
  clear_scans to h l p =
      clear_passed test s at to h l b (other test b s) (λ k e. other_no b (test (get_or s k 0)) e) p

  -- and behind them another scan goes on
  pub rest_scanned : (to r : ℕ) → at ≤ to → to ≤ length s → Clear (other test b s) at to → Scanned test b s to r
      → Scanned test b s at r
  rest_scanned to r h l p q = scanned_then test b s at to r (clear_scans to h l p) q

  -- k is the first
  pub earliest_scanned : (to k : ℕ) → to ≤ length s → Earliest (other test b s) at to k → Scanned test b s at k
  earliest_scanned to k l p =
      let h : k < length s = omega (arith, p.before) in
      passed_stop test b s at k (clear_scans k p.on (omega arith) p.clear) h (other_is b (test (get_or s k 0)) p.passes)

  -- all bytes are looked at
  pub found_scanned : (o : Option ℕ) → at ≤ length s → Finds (other test b s) at (length s) o
      → Scanned test b s at (unwrap_or o (length s))
  found_scanned None h p = passed_end test b s at (length s) (clear_scans (length s) h (omega arith) p) (omega arith)
  found_scanned (Some k) h p = earliest_scanned (length s) k (omega arith) p
