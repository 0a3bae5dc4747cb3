-- Block comments: what a mark, and places that have none, do to the place where the comment ends. Assumes nothing.
use Prim.Native.Nat.{ℕ, suc, ◌+◌, ◌-◌, ◌≤◌, ◌<◌}
use mathlib.Core.Path.{◌≡◌, refl, sym, ap, ◌∙◌}
use mathlib.Core.Logic.{◌⊎◌, ⊎_elim, ⊎_map}
use mathlib.Core.Bool.{Bool, true, false, ◌&&◌, and-eq-true_iff}
use mathlib.Core.List.{List, [], ◌∷◌}
use mathlib.Core.Option.{Option, none, some}
use Rattle.std.specs.Prelude.{Some, None}
use native.Mathlib.Omega.{arith}
use native.Mathlib.Nat.{add_assoc}
use native.Mathlib.Numerals.{add-one}
use lib.Dec.{eqb}
use lib.ListN.{length, get_or, drop, get_or-eq_default, drop_of_length-le}
use borrow.Author.Tests.{eqb-true}
use Rattle.wat.specs.Bytes.{byte}
use Rattle.wat.specs.CommentModel.{fresh, further, opens, ends}
use Rattle.wat.proofs.Blocks.{further_further}
use Rattle.wat.proofs.Basics.{or_split, or_no, below, differ}
use Rattle.lex_classes.proofs.SearchLaws.{clear_carries}
use Rattle.lex_classes.specs.Scan.{Clear, Earliest}
use Rattle.lex_comments.specs.Ends.{mark, mark_at, end_of, BlockEnd}
use Rattle.lex_comments.proofs.FindLaws.{front, byte_behind}

-- ---- marks

both : (b c x y : ℕ) → eqb b x && eqb c y ≡ true → (b ≡ x) × (c ≡ y)
both b c x y e = let p = (and-eq-true_iff (eqb b x) (eqb c y)).0 e in (eqb-true b x p.0, eqb-true c y p.1)

mark_two : (b c : ℕ) → mark b c ≡ true → ((b ≡ byte "(") × (c ≡ byte ";")) ⊎ ((b ≡ byte ";") × (c ≡ byte ")"))
unfolding mark
mark_two b c e =
    ⊎_map (both b c (byte "(") (byte ";")) (both b c (byte ";") (byte ")"))
    (or_split (eqb b (byte "(") && eqb c (byte ";")) (eqb b (byte ";") && eqb c (byte ")")) e)

mark_open : (b c : ℕ) → mark b c ≡ true → b ≡ byte "(" → c ≡ byte ";"
mark_open b c e q = ⊎_elim (λ p. p.1) (λ p. absurd (omega (arith, p.0))) (mark_two b c e)

mark_close : (b c : ℕ) → mark b c ≡ true → (b ≡ byte "(" → ⊥) → (b ≡ byte ";") × (c ≡ byte ")")
mark_close b c e n = ⊎_elim (λ p. absurd (n p.0)) (λ p. p) (mark_two b c e)

module _ (s : List ℕ) (k : ℕ) where
  -- a mark has a second byte
  mark_whole : mark_at s k ≡ true → k + 2 ≤ length s
  mark_whole e =
      ⊎_elim (λ h. omega (arith, h)) (λ h.
      let z : get_or s (k + 1) 0 ≡ 0 = get_or-eq_default s 0 h in
      absurd (⊎_elim (λ p. omega (arith, p.1)) (λ p. omega (arith, p.1)) (mark_two (get_or s k 0) (get_or s (k + 1) 0) e)))
      (below (k + 1) (length s))

  no_mark : length s < k + 2 → mark_at s k ≡ false
  no_mark h = go (mark_at s k) refl
    where
      go : (b : Bool) → mark_at s k ≡ b → mark_at s k ≡ false
      go true e = absurd (omega (arith, mark_whole e))
      go false e = e

-- no mark stands where less than two bytes are left
pub no_marks : (s : List ℕ) (i : ℕ) → length s < i + 2 → Clear (mark_at s) i (length s)
no_marks s i h = record { none = λ k a l. no_mark s k (omega (arith, a, h)) }

-- ---- distances and places

end_further : (i n : ℕ) (o : Option ℕ) → end_of i (further n o) ≡ end_of (i + n) o
end_further i n none = refl
end_further i n (some m) = ap Some (sym (add_assoc i n m))

-- for a caller: nowhere, and the distance
pub open_none : (at : ℕ) (o : Option ℕ) → None ≡ end_of at o → o ≡ none
open_none at none e = refl
open_none at (some n) e = differ (cc)

pub closed_some : (at r : ℕ) (o : Option ℕ) → Some r ≡ end_of at o → o ≡ some (r - at)
closed_some at r none e = differ (cc)
closed_some at r (some n) e = let q : r ≡ at + n = cc in ap some (omega arith)

pub closed_onward : (at r : ℕ) (o : Option ℕ) → Some r ≡ end_of at o → at ≤ r
closed_onward at r none e = differ (cc)
closed_onward at r (some n) e = let q : r ≡ at + n = cc in omega arith

-- ---- the bytes at the front

module _ (l : ℕ) (t : List ℕ) where
  ends_open : ends fresh l (byte "(" ∷ byte ";" ∷ t) ≡ further 2 (ends fresh (suc l) t)
  unfolding ends opens
  ends_open = further_further 1 1 (ends fresh (suc l) t)

  ends_close : ends fresh (suc l) (byte ";" ∷ byte ")" ∷ t) ≡ further 2 (ends fresh l t)
  unfolding ends opens
  ends_close = further_further 1 1 (ends fresh l t)

ends_last : (t : List ℕ) → ends fresh 0 (byte ";" ∷ byte ")" ∷ t) ≡ some 2
unfolding ends opens
ends_last t = refl

-- a byte that begins no mark
ends_plain : (l x : ℕ) (t : List ℕ) → mark x (get_or t 0 0) ≡ false → ends fresh l (x ∷ t) ≡ further 1 (ends fresh l t)
unfolding ends opens mark
ends_plain l x [] e = refl
ends_plain l x (y ∷ t) e = ap (further 1) (go (eqb x (byte "(")) (eqb x (byte ";")) refl refl)
  where
    none_of : (eqb x (byte "(") && eqb y (byte ";") ≡ false) × (eqb x (byte ";") && eqb y (byte ")") ≡ false)
    none_of = or_no (eqb x (byte "(") && eqb y (byte ";")) (eqb x (byte ";") && eqb y (byte ")")) e

    go : (a b : Bool) → eqb x (byte "(") ≡ a → eqb x (byte ";") ≡ b
        → ends (opens x) l (y ∷ t) ≡ further 1 (ends (opens y) l t)
    go true b p q = let z : eqb y (byte ";") ≡ false = rw p at none_of.0 in rw (p, z, opens, ends)
    go false true p q = let z : eqb y (byte ")") ≡ false = rw q at none_of.1 in rw (p, q, z, opens, ends)
    go false false p q = rw (p, q, opens, ends)

-- ---- a place inside l comments more than the outermost

pub record Inside (s : List ℕ) (at i l : ℕ) : Type 0 where
  pub within : i ≤ length s
  pub shallow : l ≤ i
  pub same : end_of i (ends fresh l (drop i s)) ≡ end_of at (ends fresh 0 (drop at s))

module _ (s : List ℕ) (at : ℕ) where
  pub inside_start : at ≤ length s → Inside s at at 0
  inside_start h = record { within = h; shallow = omega arith; same = refl }

  -- the end of the outermost comment is so many bytes further on, at another level
  moved : {i l : ℕ} (n m : ℕ) → Inside s at i l → i + n ≤ length s → m ≤ i + n
      → ends fresh l (drop i s) ≡ further n (ends fresh m (drop (i + n) s)) → Inside s at (i + n) m
  moved {i} {l} n m p h k e =
      record { within = h; shallow = k; same = sym (end_further i n (ends fresh m (drop (i + n) s))) ∙ ap (end_of i) (sym e) ∙ p.same }

  inside_next : (l k : ℕ) → k < length s → Inside s at k l → mark_at s k ≡ false → Inside s at (k + 1) l
  inside_next l k h p e =
      let q = byte_behind s (k + 1) 0 (k + 1) (omega arith) in
      moved 1 l p (omega arith) (omega (arith, p.shallow))
      (ap (ends fresh l) (front s k h) ∙ ends_plain l (get_or s k 0) (drop (k + 1) s) (ap (mark (get_or s k 0)) q ∙ e))

  -- no mark stands before k
  inside_plain : (i l k : ℕ) → Inside s at i l → i ≤ k → k ≤ length s → Clear (mark_at s) i k → Inside s at k l
  inside_plain i l k p on m q =
      clear_carries (λ j. Inside s at j l) (mark_at s) i k on q p
      (λ j h r e. inside_next l j (omega (arith, h, m)) r e)

  module _ (k l : ℕ) (p : Inside s at k l) (m : mark_at s k ≡ true) where
    next_two : drop k s ≡ get_or s k 0 ∷ get_or s (k + 1) 0 ∷ drop (k + 2) s
    next_two =
        let h = mark_whole s k m in
        let e : k + 2 ≡ k + 1 + 1 = omega arith in
        rw e (front s k (omega arith) ∙ ap (λ (z : List ℕ). get_or s k 0 ∷ z) (front s (k + 1) (omega arith)))

    opened : get_or s k 0 ≡ byte "(" → Inside s at (k + 2) (l + 1)
    opened a =
        let b = mark_open (get_or s k 0) (get_or s (k + 1) 0) m a in
        moved 2 (l + 1) p (mark_whole s k m) (omega (arith, p.shallow)) (rw (next_two, a, b, add-one l) (ends_open l (drop (k + 2) s)))

    module _ (o : get_or s k 0 ≡ byte "(" → ⊥) where
      closes : drop k s ≡ byte ";" ∷ byte ")" ∷ drop (k + 2) s
      closes = let c = mark_close (get_or s k 0) (get_or s (k + 1) 0) m o in rw (next_two, c.0, c.1)

      closed : 0 < l → Inside s at (k + 2) (l - 1)
      closed d =
          let e : l ≡ suc (l - 1) = omega arith in
          let f : ends fresh l (drop k s) ≡ further 2 (ends fresh (l - 1) (drop (k + 2) s)) =
          ap (λ (n : ℕ). ends fresh n (drop k s)) e ∙ rw closes (ends_close (l - 1) (drop (k + 2) s)) in
          moved 2 (l - 1) p (mark_whole s k m) (omega (arith, p.shallow)) f

      ended : l ≡ 0 → BlockEnd s at (Some (k + 2))
      ended z =
          let f : ends fresh l (drop k s) ≡ some 2 = rw (z, closes) (ends_last (drop (k + 2) s)) in
          let w = mark_whole s k m in
          record { end = ap (end_of k) (sym f) ∙ p.same; within = λ n e. let q : k + 2 ≡ n = cc in omega arith }

  -- from a place i inside l comments, where no mark follows
  pub inside_none : (i l : ℕ) → Clear (mark_at s) i (length s) → Inside s at i l → BlockEnd s at None
  unfolding ends
  inside_none i l q a =
      let p = inside_plain i l (length s) a a.within (omega arith) q in
      let e : ends fresh l (drop (length s) s) ≡ none = ap (ends fresh l) (drop_of_length-le s {i = length s} (omega arith)) in
      record { end = sym (ap (end_of (length s)) e) ∙ p.same; within = λ n q. differ (cc) }

  -- and by the next mark
  module _ (i k l : ℕ) (q : Earliest (mark_at s) i (length s) k) (a : Inside s at i l) where
    here : Inside s at k l
    here = inside_plain i l k a q.on (omega (arith, q.before)) q.clear

    pub inside_open : get_or s k 0 ≡ byte "(" → Inside s at (k + 2) (l + 1)
    inside_open o = opened k l here q.passes o

    pub inside_close : (get_or s k 0 ≡ byte "(" → ⊥) → (l ≡ 0 → ⊥) → Inside s at (k + 2) (l - 1)
    inside_close o z = closed k l here q.passes o (omega arith)

    pub inside_last : (get_or s k 0 ≡ byte "(" → ⊥) → l ≡ 0 → BlockEnd s at (Some (k + 2))
    inside_last o = ended k l here q.passes o

pub ruleset blocks = (inside_start, inside_none, inside_open, inside_close, inside_last)
