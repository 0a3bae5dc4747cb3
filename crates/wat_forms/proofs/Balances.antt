-- A form is balanced, and every opening in forms is that of a form in them. Assumes nothing.
use Prim.Native.Nat.{ℕ, suc, ◌+◌, ◌≤◌, ◌<◌}
use mathlib.Core.Path.{◌≡◌, refl, sym, ap, ◌∙◌, subst}
use mathlib.Core.List.{List, [], ◌∷◌, ◌++◌, append_assoc}
use native.Mathlib.Omega.{arith}
use Rattle.wat.specs.Division.{Piece}
use Rattle.wat.proofs.Basics.{differ}
use Rattle.wat_forms.specs.Forms.{Opens, Closes, opens, closes, Forms, Form}
use Rattle.wat_forms.specs.Balance.{Side, up, down, count, openings, closings, Balanced}
use Rattle.wat_forms.proofs.Sides.{opens_side, closes_side, other_side}

-- ---- lists

-- a list put together in two ways: the first front is in the second, or goes beyond it
data Cut (us vs xs ys : List Piece) : Type 0 where
  within : (w : List Piece) → xs ≡ us ++ w → vs ≡ w ++ ys → Cut us vs xs ys
  beyond : (c : Piece) (w : List Piece) → us ≡ xs ++ (c ∷ w) → ys ≡ c ∷ (w ++ vs) → Cut us vs xs ys

cut : (us vs xs ys : List Piece) → us ++ vs ≡ xs ++ ys → Cut us vs xs ys
cut [] vs xs ys e = Cut.within xs refl e
cut (u ∷ us) vs [] ys e = Cut.beyond u us refl (sym e)
cut (u ∷ us) vs (x ∷ xs) ys e = go (cut us vs xs ys (cc))
  where
    same : u ≡ x
    same = cc

    go : Cut us vs xs ys → Cut (u ∷ us) vs (x ∷ xs) ys
    go (Cut.within w p q) = Cut.within w (cc) q
    go (Cut.beyond c w p q) = Cut.beyond c w (cc) q

-- ---- counts

pub count_append : (f : Side → ℕ) (us vs : List Piece) → count f (us ++ vs) ≡ count f us + count f vs
count_append f [] vs = omega arith
count_append f (u ∷ us) vs = omega (arith, count_append f us vs)

pub forms_same : {d : ℕ} {ts : List Piece} → Forms d ts → openings ts ≡ closings ts
forms_same Forms.none = refl
forms_same (Forms.other {t = t} a b f) = rw (other_side t a b) (omega (arith, forms_same f))
forms_same (Forms.form {closing = c} {inner = inner} {ts = ts} opens f closes g) =
    omega (arith, forms_same f, forms_same g, count_append up inner (c ∷ ts), count_append down inner (c ∷ ts))

-- every front of these tokens has no more closings than openings
abbrev Leans : List Piece → Type 0
Leans ts = (us vs : List Piece) → ts ≡ us ++ vs → closings us ≤ openings us

-- the same behind the opening of a form
leans_in : {c : Piece} (inner ts : List Piece) → Leans inner → openings inner ≡ closings inner → Closes c → Leans ts
    → (us vs : List Piece) → inner ++ (c ∷ ts) ≡ us ++ vs → closings us ≤ 1 + openings us
leans_in {c} inner ts i same q g us vs e = go (cut us vs inner (c ∷ ts) (sym e))
  where
    go : Cut us vs inner (c ∷ ts) → closings us ≤ 1 + openings us
    go (Cut.within w x y) = let h = i us w x in omega arith
    go (Cut.beyond z w x y) =
        let is : z ≡ c = cc in
        let h = g w vs (cc) in
        rw (x, count_append up inner (z ∷ w), count_append down inner (z ∷ w), is, closes_side q) (omega arith)

pub forms_lean : {d : ℕ} {ts : List Piece} → Forms d ts → Leans ts
forms_lean Forms.none [] vs e = omega arith
forms_lean Forms.none (u ∷ us) vs e = differ (cc)
forms_lean (Forms.other a b f) [] vs e = omega arith
forms_lean (Forms.other {t = t} a b f) (u ∷ us) vs e =
    let is : u ≡ t = cc in
    let h = forms_lean f us vs (cc) in
    rw (is, other_side t a b) (omega arith)
forms_lean (Forms.form p f q g) [] vs e = omega arith
forms_lean (Forms.form {opening = o} {inner = inner} {ts = ts} p f q g) (u ∷ us) vs e =
    let is : u ≡ o = cc in
    let h =
    leans_in inner ts (λ us vs e. forms_lean f us vs e) (forms_same f) q (λ us vs e. forms_lean g us vs e) us vs (cc) in
    rw (is, opens_side p) (omega arith)

pub form_balanced : {d : ℕ} {ts : List Piece} → Form d ts → Balanced ts
form_balanced (Form.form {opening = o} {closing = c} {inner = inner} p f q) =
    record {
      front = o ∷ inner;
      last = c;
      ends = refl;
      closes = closes_side q;
      same = forms_same (Forms.form p f q Forms.none);
      more = front;
    }
  where
    lean : (us vs : List Piece) → Cut us vs inner (c ∷ []) → (vs ≡ [] → ⊥) → closings us ≤ openings us
    lean us vs (Cut.within w x y) n = forms_lean f us w x
    lean us vs (Cut.beyond z w x y) n = absurd (n (ended w vs (cc)))
      where
        ended : (w vs : List Piece) → [] ≡ w ++ vs → vs ≡ []
        ended [] vs e = sym e
        ended (x ∷ w) vs e = differ (cc)

    front : (u : Piece) (us : List Piece) (v : Piece) (vs : List Piece) → o ∷ (inner ++ (c ∷ [])) ≡ (u ∷ us) ++ (v ∷ vs)
        → closings (u ∷ us) < openings (u ∷ us)
    front u us v vs e =
        let is : u ≡ o = cc in
        let h = lean us (v ∷ vs) (cut us (v ∷ vs) inner (c ∷ []) (cc)) (λ (z : v ∷ vs ≡ []). differ (cc)) in
        rw (is, opens_side p) (omega arith)

-- ---- forms in forms

forms_wider : {d : ℕ} {ts : List Piece} → Forms d ts → Forms (suc d) ts
forms_wider Forms.none = Forms.none
forms_wider (Forms.other a b f) = Forms.other a b (forms_wider f)
forms_wider (Forms.form p f q g) = Forms.form p (forms_wider f) q (forms_wider g)

-- an opening among the tokens is the first token of a form of at most d levels
pub record Within (d : ℕ) (ts : List Piece) : Type 0 where
  pub form : List Piece
  pub rest : List Piece
  pub parts : ts ≡ form ++ rest
  pub is : Form d form

within_wider : {d : ℕ} {ts : List Piece} → Within d ts → Within (suc d) ts
within_wider w = record { form = w.form; rest = w.rest; parts = w.parts; is = wider w.is }
  where
    wider : {d : ℕ} {ts : List Piece} → Form d ts → Form (suc d) ts
    wider (Form.form p f q) = Form.form p (forms_wider f) q

not_both : {t : Piece} → Opens t → Closes t → ⊥
not_both p q = let a = opens_side p in let b = closes_side q in differ (cc)

abbrev Holds : ℕ → List Piece → Type 0
Holds d ts = (us : List Piece) (o : Piece) (vs : List Piece) → ts ≡ us ++ (o ∷ vs) → Opens o → Within d (o ∷ vs)

holds_in : {d : ℕ} {c : Piece} (inner ts : List Piece) → Holds d inner → Closes c → Holds (suc d) ts
    → (us : List Piece) (o : Piece) (vs : List Piece) → inner ++ (c ∷ ts) ≡ us ++ (o ∷ vs) → Opens o
    → Within (suc d) (o ∷ vs)
holds_in {d} {c} inner ts i q g us o vs e p = go (cut us (o ∷ vs) inner (c ∷ ts) (sym e))
  where
    first : (w : List Piece) → inner ≡ us ++ w → o ∷ vs ≡ w ++ (c ∷ ts) → Within (suc d) (o ∷ vs)
    first [] x y = absurd (not_both p (subst Closes (cc) q))
    first (z ∷ w) x y =
        let is : z ≡ o = cc in
        let h = i us o w (rw is at x) p in
        within_wider (record {
          form = h.form;
          rest = h.rest ++ (c ∷ ts);
          parts = ap (λ (l : List Piece). o ∷ l) (cc) ∙ ap (λ (l : List Piece). l ++ (c ∷ ts)) h.parts
              ∙ append_assoc h.form h.rest (c ∷ ts);
          is = h.is;
        })

    go : Cut us (o ∷ vs) inner (c ∷ ts) → Within (suc d) (o ∷ vs)
    go (Cut.within w x y) = first w x y
    go (Cut.beyond z w x y) = g w o vs (cc) p

pub forms_hold : {d : ℕ} {ts : List Piece} → Forms d ts → Holds d ts
forms_hold Forms.none [] o vs e p = differ (cc)
forms_hold Forms.none (u ∷ us) o vs e p = differ (cc)
forms_hold (Forms.other {t = t} a b f) [] o vs e p = absurd (a (subst Opens (cc) p))
forms_hold (Forms.other {t = t} a b f) (u ∷ us) o vs e p = forms_hold f us o vs (cc) p
forms_hold (Forms.form {opening = z} {closing = c} {inner = inner} {ts = ts} x f q g) [] o vs e p =
    record {
      form = z ∷ (inner ++ (c ∷ []));
      rest = ts;
      parts = sym e ∙ ap (λ (l : List Piece). z ∷ l) (sym (append_assoc inner (c ∷ []) ts));
      is = Form.form x f q;
    }
forms_hold (Forms.form {inner = inner} {ts = ts} x f q g) (u ∷ us) o vs e p =
    holds_in inner ts (λ us o vs e p. forms_hold f us o vs e p) q (λ us o vs e p. forms_hold g us o vs e p) us o vs (cc) p

-- in a form an opening begins a form, which is of no more levels
pub form_holds : {d : ℕ} {ts : List Piece} → Form d ts → (us : List Piece) (o : Piece) (vs : List Piece)
    → ts ≡ us ++ (o ∷ vs) → Opens o → Within d (o ∷ vs)
form_holds (Form.form p f q) = forms_hold (Forms.form p f q Forms.none)
