-- Whole strings: the model goes as the relations say. So a string's end and value are determined. Assumes nothing.
use Prim.Native.Nat.{ℕ, zero, suc, ◌+◌, ◌≤◌, ◌<◌}
use mathlib.Core.Path.{◌≡◌, refl, sym, ap, ◌∙◌}
use mathlib.Core.List.{List, [], ◌∷◌, ◌++◌, append-nil, append_assoc}
use native.Mathlib.Omega.{arith}
use native.Mathlib.Nat.{zero-add, add_assoc}
use lib.ListN.{length, take, drop, length-append}
use lib.Seq.{take-append_seam, drop-append_seam}
use Rattle.wat.specs.Faults.{fault}
use Rattle.wat.specs.declared.LexError.{LexError}
use Rattle.wat.specs.declared.Settings.{Settings}
use Rattle.wat.specs.Utf8.{Char, WellFormed}
use Rattle.wat.specs.Strings.{Elem, Elems, Str}
use Rattle.wat.specs.StringFaults.{Bad}
use Rattle.wat.specs.StringModel.{Read}
use Rattle.wat.specs.RunModel.{StringRead, closed, failed, ahead, body_by, body}
use Rattle.wat.proofs.Utf8Rows.{char_full}
use Rattle.wat.proofs.Basics.{shift_none, shift_shift}
use Rattle.wat.proofs.ElementReads.{elem_read, read_quote}
use Rattle.wat.proofs.ElementFaults.{bad_read}
use Rattle.wat.proofs.Elements.{Reads, is_element, is_quote, is_refused, reads}

pub elem_some : {σ : Settings} {s v : List ℕ} → Elem σ s v → 0 < length s
elem_some (Elem.raw {c = c} ch p q r h) = some c ch
  where
    some : (c : List ℕ) → Char c → 0 < length c
    some [] ch = absurd (char_full ch)
    some (x ∷ c) ch = omega arith
elem_some (Elem.letter m) = omega arith
elem_some (Elem.pair p q) = omega arith
elem_some (Elem.unicode r ch) = omega arith

pub ahead_ahead : (n m : ℕ) (v w : List ℕ) (b : StringRead) → ahead n v (ahead m w b) ≡ ahead (n + m) (v ++ w) b
ahead_ahead n m v w (closed k z) = cc (add_assoc n m k, append_assoc v w z)
ahead_ahead n m v w (failed f) = ap failed (shift_shift n m f)

pub ahead_none : (b : StringRead) → ahead 0 [] b ≡ b
ahead_none (closed k z) = cc (zero-add k)
ahead_none (failed f) = ap failed (shift_none f)

-- the model passes the elements, and has fuel for the rest
pub elems_body : {σ : Settings} {s v : List ℕ} (t : List ℕ) (f : ℕ) → Elems σ s v → length s < f
    → (g : ℕ) × (f ≤ g + length s) × (0 < g) × (body σ f (s ++ t) ≡ ahead (length s) v (body σ g t))
unfolding body
elems_body {σ} t f Elems.none h = (f, omega arith, omega arith, sym (ahead_none (body σ f t)))
elems_body t zero (Elems.next p r) h = absurd (omega arith)
elems_body {σ} t (suc f) (Elems.next {s = s} {v = v} {t = s'} {w = w} p r) h =
    let l = length-append s s' in
    let o = elem_some p in
    let i = elems_body t f r (omega arith) in
    let e : (s ++ s') ++ t ≡ s ++ (s' ++ t) = append_assoc s s' t in (
      i.0,
      omega (arith, i.1),
      i.2,
      rw (e, elem_read (s' ++ t) p, drop-append_seam s (s' ++ t), i.3)
          (ahead_ahead (length s) (length s') v w (body σ i.0 t) ∙ ap (λ (n : ℕ). ahead n (v ++ w) (body σ i.0 t)) (sym l)),
    )

pub str_body : {σ : Settings} {s v : List ℕ} (x : List ℕ) (f : ℕ) → Elems σ s v → length s < f
    → body σ f (s ++ (0x22 ∷ x)) ≡ closed (length s + 1) v
unfolding body
str_body {σ} {s} {v} x f r h = go (elems_body (0x22 ∷ x) f r h)
  where
    at : (g : ℕ) → 0 < g → body σ g (0x22 ∷ x) ≡ closed 1 []
    at zero h = absurd (omega arith)
    at (suc g) h = rw (read_quote σ x)

    go : (g : ℕ) × (f ≤ g + length s) × (0 < g)
        × (body σ f (s ++ (0x22 ∷ x)) ≡ ahead (length s) v (body σ g (0x22 ∷ x)))
        → body σ f (s ++ (0x22 ∷ x)) ≡ closed (length s + 1) v
    go (g, a, b, e) = e ∙ rw (at g b, append-nil)

pub bad_body : {σ : Settings} {s v p c u : List ℕ} {e : LexError} (f : ℕ) → Elems σ s v → Bad σ p c u e → length s < f
    → body σ f (s ++ (p ++ (c ++ u))) ≡ failed (fault e (length s + length p) (length s + (length p + length c)))
unfolding body
bad_body {σ} {s} {v} {p} {c} {u} {e} f r b h = go (elems_body (p ++ (c ++ u)) f r h)
  where
    at : (g : ℕ) → 0 < g → body σ g (p ++ (c ++ u)) ≡ failed (fault e (length p) (length p + length c))
    at zero h = absurd (omega arith)
    at (suc g) h = rw (bad_read σ b)

    go : (g : ℕ) × (f ≤ g + length s) × (0 < g)
        × (body σ f (s ++ (p ++ (c ++ u))) ≡ ahead (length s) v (body σ g (p ++ (c ++ u))))
        → body σ f (s ++ (p ++ (c ++ u))) ≡ failed (fault e (length s + length p) (length s + (length p + length c)))
    go (g, a, b, q) = q ∙ rw (at g b)

-- a string's end and value are determined
pub str_one : {σ : Settings} {s v r w : List ℕ} (x y : List ℕ) → Str σ s v → Str σ r w → s ++ x ≡ r ++ y
    → (s ≡ r) × (v ≡ w) × (x ≡ y)
str_one {σ} x y (Str.quoted {s = s} {v = v} p) (Str.quoted {s = r} {v = w} q) e =
    let a : (s ++ (0x22 ∷ [])) ++ x ≡ s ++ (0x22 ∷ x) = append_assoc s (0x22 ∷ []) x in
    let b : (r ++ (0x22 ∷ [])) ++ y ≡ r ++ (0x22 ∷ y) = append_assoc r (0x22 ∷ []) y in
    let d : s ++ (0x22 ∷ x) ≡ r ++ (0x22 ∷ y) = cc in
    let f = suc (length s + length r) in
    let k : closed (length s + 1) v ≡ closed (length r + 1) w =
    sym (str_body x f p (omega arith)) ∙ ap (body σ f) d ∙ str_body y f q (omega arith) in
    let n : length s + 1 ≡ length r + 1 = cc in
    let m : length s ≡ length r = omega arith in
    let i : take (length s) (s ++ (0x22 ∷ x)) ≡ take (length r) (r ++ (0x22 ∷ y)) = cc in
    let j : drop (length s) (s ++ (0x22 ∷ x)) ≡ drop (length r) (r ++ (0x22 ∷ y)) = cc in
    let s≡ : s ≡ r = cc (take-append_seam s (0x22 ∷ x), take-append_seam r (0x22 ∷ y)) in
    let t≡ : 0x22 ∷ x ≡ 0x22 ∷ y = cc (drop-append_seam s (0x22 ∷ x), drop-append_seam r (0x22 ∷ y)) in
    (cc, cc, cc)

-- ---- each well-formed rest is a string's rest, or refused

pub data Bodies (σ : Settings) (t : List ℕ) : StringRead → Type 0 where
  is_closed : {s v : List ℕ} {n : ℕ} (x : List ℕ) → t ≡ s ++ (0x22 ∷ x) → Elems σ s v → WellFormed x
      → n ≡ length s + 1 → Bodies σ t (closed n v)
  is_failed : {s v p c u : List ℕ} {e : LexError} {a b : ℕ} → t ≡ s ++ (p ++ (c ++ u)) → Elems σ s v → Bad σ p c u e
      → a ≡ length s + length p → b ≡ length s + (length p + length c) → Bodies σ t (failed (fault e a b))

-- one element more
bodies_next : {σ : Settings} {s v t : List ℕ} {n : ℕ} {b : StringRead} (x : List ℕ) → Elem σ s v → t ≡ s ++ x
    → n ≡ length s → Bodies σ x b → Bodies σ t (ahead n v b)
bodies_next {s = s} {n = k} x p e l (is_closed {s = s'} {n = n} y q r w m) =
    is_closed {n = k + n} y (e ∙ ap (λ (z : List ℕ). s ++ z) q ∙ sym (append_assoc s s' (0x22 ∷ y))) (Elems.next p r) w
    (omega (arith, length-append s s'))
bodies_next {s = s} {n = k} x p e l (is_failed {s = s'} {p = p'} {c = c} {u = u} {a = a} {b = b} q r w m m') =
    is_failed {a = k + a} {b = k + b} (e ∙ ap (λ (z : List ℕ). s ++ z) q ∙ sym (append_assoc s s' (p' ++ (c ++ u))))
    (Elems.next p r) w (omega (arith, length-append s s')) (omega (arith, length-append s s'))

pub bodies : {σ : Settings} (f : ℕ) (t : List ℕ) → length t < f → WellFormed t → Bodies σ t (body σ f t)
unfolding body
bodies zero t h w = absurd (omega arith)
bodies {σ} (suc f) t h w = go (reads σ w) (bodies f)
  where
    Next : Type 0
    Next = (t : List ℕ) → length t < f → WellFormed t → Bodies σ t (body σ f t)

    go : {r : Read} → Reads σ t r → Next → Bodies σ t (body_by r (λ n. body σ f (drop n t)))
    go (is_element {s = s} {v = v} {n = n} x e p w l) ih =
        let o = elem_some p in
        let d : drop n t ≡ x = rw (l, e) (drop-append_seam s x) in
        rw d (bodies_next x p e l (ih x (omega (arith, ap length e, length-append s x)) w))
    go (is_quote x e w) ih = is_closed x e Elems.none w refl
    go (is_refused {p = p} {c = c} {u = u} {e = err} {a = a} {b = b} e x l m) ih =
        is_failed {a = a} {b = b} e Elems.none x (omega arith) (omega arith)
