-- Folding has one answer, for every text, position and settings. Assumes nothing.
use Prim.Native.Nat.{ℕ, ◌+◌, ◌≤◌}
use mathlib.Core.Path.{◌≡◌, refl, sym, ap, ◌∙◌, subst}
use mathlib.Core.Logic.{◌⊎◌, inl, inr}
use mathlib.Core.List.{List, [], ◌∷◌, ◌++◌, append-nil}
use native.Mathlib.Omega.{arith}
use lib.ListN.{length, drop, drop_of_length-le}
use Rattle.wat.specs.declared.Settings.{Settings}
use Rattle.wat.specs.declared.TokenKind.TheVariants as kind
use Rattle.wat.specs.Answers as answer
use Rattle.wat_forms.specs.Folded.{Folded}
use Rattle.wat.specs.{Lexing.Lexed, Division.Piece, Division.lengths, Division.Divided, Division.Walked}
use Rattle.wat.proofs.Basics.{differ}
use Rattle.wat.proofs.Unique.{token_same, lexed_one}
use Rattle.wat_laws.proofs.OneCall.{rejected_one, stands_or_rejected}
use Rattle.wat_laws.proofs.Divisions.{divided_one}
use Rattle.wat_forms.specs.Forms.{deepest, opens, Form, Begun, Halts, Folds}
use Rattle.wat_forms.proofs.Sides.{Ran, closed, stuck, still, run, top, form_top, begun_top}

-- ---- two walks from one place: one goes on from where the other ends

abbrev pub Further : Settings → List ℕ → List Piece → List Piece → Type 0
Further σ rest ts us = (vs : List Piece) × (rest' : List ℕ) × (us ≡ ts ++ vs) × Divided σ rest vs rest'

pub divided_further : {σ : Settings} {s rest rest' : List ℕ} {ts us : List Piece} → Divided σ s ts rest → Divided σ s us rest'
    → Further σ rest ts us ⊎ Further σ rest' us ts
divided_further {rest' = rest'} {us = us} Divided.none e = inl (us, rest', refl, e)
divided_further {rest = rest} (Divided.more {t = t} {ts = ts} l d) Divided.none = inr (t ∷ ts, rest, refl, Divided.more l d)
divided_further {σ} {s} {rest} {rest'} (Divided.more {t = t} {ts = ts} l d) (Divided.more {t = u} {ts = us} l' d') =
    go (divided_further d (rw (sym (ap (λ (z : Piece). z.len) same)) at d'))
  where
    same : t ≡ u
    same = let z = (divided_one (Divided.more {t = t} l Divided.none) (Divided.more {t = u} l' Divided.none) refl).0 in cc

    go : Further σ rest ts us ⊎ Further σ rest' us ts
        → Further σ rest (t ∷ ts) (u ∷ us) ⊎ Further σ rest' (u ∷ us) (t ∷ ts)
    go (inl (vs, r, e, x)) = inl (vs, r, cc (same, e), x)
    go (inr (vs, r, e, x)) = inr (vs, r, cc (same, e), x)

-- ---- one answer

-- counted from the first token on, the tokens are a form and nothing else, or a form that is begun
abbrev Complete : Ran → Type 0
Complete (closed []) = Unit {0}
Complete (closed (t ∷ ts)) = ⊥
Complete stuck = ⊥
Complete (still l) = Unit {0}

form_or_begun : {e : ℕ} {ts : List Piece} → Form deepest ts → Begun deepest e ts → ⊥
form_or_begun f b = let x = form_top f [] in let y = (begun_top b).1 [] in differ (cc)

begun_complete : {e : ℕ} {ts : List Piece} → Begun deepest e ts → Complete (top deepest ts)
begun_complete {ts = ts} b = subst Complete (sym ((begun_top b).1 []) ∙ ap (top deepest) (append-nil ts)) tt

end_lexed : {σ : Settings} (text : List ℕ) (at : ℕ) → at ≡ length text → Lexed σ (drop at text) answer.End
end_lexed text at e = let le : length text ≤ at = omega arith in Lexed.end (drop_of_length-le text le)

-- a form begins with an opening, and so does one that is begun
form_opens : {σ : Settings} {d : ℕ} {ts : List Piece} {s rest : List ℕ} → Form d ts → Divided σ s ts rest
    → (n : ℕ) × Lexed σ s (answer.Token kind.LParen n)
form_opens (Form.form opens f q) (Divided.more l d) = (_, l)

begun_opens : {σ : Settings} {d e : ℕ} {ts : List Piece} {s rest : List ℕ} → Begun d e ts → Divided σ s ts rest
    → (n : ℕ) × Lexed σ s (answer.Token kind.LParen n)
begun_opens (Begun.begun opens i) (Divided.more l d) = (_, l)

module _ {σ : Settings} {text : List ℕ} where
  halts_opens : {ts : List Piece} {at : ℕ} {s rest : List ℕ} {a : Folded} → Halts σ text ts at a → Divided σ s ts rest
      → (n : ℕ) × Lexed σ s (answer.Token kind.LParen n)
  halts_opens (Halts.past f) d = form_opens f d
  halts_opens (Halts.fault b g) d = begun_opens b d
  halts_opens (Halts.too_deep b g) d = begun_opens b d
  halts_opens (Halts.left_open b e) d = begun_opens b d

  halts_complete : {ts : List Piece} {at : ℕ} {a : Folded} → Halts σ text ts at a → Complete (top deepest ts)
  halts_complete {ts} (Halts.past f) = subst Complete (sym (form_top f []) ∙ ap (top deepest) (append-nil ts)) tt
  halts_complete (Halts.fault b l) = begun_complete b
  halts_complete (Halts.too_deep b l) = begun_complete b
  halts_complete (Halts.left_open b e) = begun_complete b

  -- with a token more they are neither
  halts_here : {ts : List Piece} {at : ℕ} {a : Folded} → Halts σ text ts at a → (v : Piece) (vs : List Piece)
      → Lexed σ (drop at text) (answer.Token v.kind v.len) → Complete (top deepest (ts ++ (v ∷ vs))) → ⊥
  halts_here (Halts.past f) v vs l w = subst Complete (form_top f (v ∷ vs)) w
  halts_here (Halts.fault b g) v vs l w = let z = lexed_one l g in differ (cc)
  halts_here (Halts.too_deep b g) v vs l w =
      let r = begun_top b in
      subst Complete (r.1 (v ∷ vs) ∙ no_level v r.0 (token_same (lexed_one l g)).0) w
    where
      no_level : (v : Piece) (p : ℕ) → v.kind ≡ kind.LParen → run (v ∷ vs) p 0 ≡ stuck
      no_level v p e = rw e refl
  halts_here {at = at} (Halts.left_open b e) v vs l w = let z = lexed_one l (end_lexed text at e) in differ (cc)

  halts_one : {ts : List Piece} {at : ℕ} {a b : Folded} → Halts σ text ts at a → Halts σ text ts at b → a ≡ b
  halts_one (Halts.past f) (Halts.past g) = refl
  halts_one (Halts.past f) (Halts.fault b l) = absurd (form_or_begun f b)
  halts_one (Halts.past f) (Halts.too_deep b l) = absurd (form_or_begun f b)
  halts_one (Halts.past f) (Halts.left_open b e) = absurd (form_or_begun f b)
  halts_one (Halts.fault b l) (Halts.past f) = absurd (form_or_begun f b)
  halts_one (Halts.fault b l) (Halts.fault c m) = let z = lexed_one l m in cc
  halts_one (Halts.fault b l) (Halts.too_deep c m) = let z = lexed_one l m in differ (cc)
  halts_one {at = at} (Halts.fault b l) (Halts.left_open c e) = let z = lexed_one l (end_lexed text at e) in differ (cc)
  halts_one (Halts.too_deep b l) (Halts.past f) = absurd (form_or_begun f b)
  halts_one (Halts.too_deep b l) (Halts.fault c m) = let z = lexed_one l m in differ (cc)
  halts_one (Halts.too_deep b l) (Halts.too_deep c m) = refl
  halts_one {at = at} (Halts.too_deep b l) (Halts.left_open c e) = let z = lexed_one l (end_lexed text at e) in differ (cc)
  halts_one (Halts.left_open b e) (Halts.past f) = absurd (form_or_begun f b)
  halts_one {at = at} (Halts.left_open b e) (Halts.fault c m) = let z = lexed_one m (end_lexed text at e) in differ (cc)
  halts_one {at = at} (Halts.left_open b e) (Halts.too_deep c m) = let z = lexed_one m (end_lexed text at e) in differ (cc)
  halts_one (Halts.left_open b e) (Halts.left_open c f) = refl

module _ {σ : Settings} {text : List ℕ} {pos : ℕ} where
  -- a walk, and one that goes on from where it ends
  walks_on : {ts us : List Piece} {at to : ℕ} {a b : Folded} → Walked σ text pos at ts → Halts σ text ts at a
      → Walked σ text pos to us → Halts σ text us to b → Further σ (drop at text) ts us → a ≡ b
  walks_on {ts} {us} {at} {to} w h v k ([], r, e, x) =
      let same : ts ≡ us = sym (e ∙ append-nil ts) in
      let here : at ≡ to = w.place ∙ ap (λ (zs : List Piece). pos + lengths zs) same ∙ sym v.place in
      halts_one h (rw (same, here) k)
  walks_on w h v k (z ∷ zs, r, e, Divided.more l d) =
      absurd (halts_here h z zs l (subst (λ (ts : List Piece). Complete (top deepest ts)) e (halts_complete k)))

  pub folds_one : {a b : Folded} → Folds σ text pos a → Folds σ text pos b → a ≡ b
  folds_one (Folds.rejected t) (Folds.rejected u) = let z = rejected_one t u in cc
  folds_one (Folds.rejected t) (Folds.elsewhere s n) = absurd (stands_or_rejected s t)
  folds_one (Folds.rejected t) (Folds.walks s w h) = absurd (stands_or_rejected s t)
  folds_one (Folds.elsewhere s n) (Folds.rejected t) = absurd (stands_or_rejected s t)
  folds_one (Folds.elsewhere s n) (Folds.elsewhere t m) = refl
  folds_one (Folds.elsewhere s n) (Folds.walks t w h) = let o = halts_opens h w.divided in absurd (n o.0 o.1)
  folds_one (Folds.walks s w h) (Folds.rejected t) = absurd (stands_or_rejected s t)
  folds_one (Folds.walks t w h) (Folds.elsewhere s n) = let o = halts_opens h w.divided in absurd (n o.0 o.1)
  folds_one {a} {b} (Folds.walks {ts = ts} {at = at} s w h) (Folds.walks {ts = us} {at = to} t v k) =
      go (divided_further w.divided v.divided)
    where
      go : Further σ (drop at text) ts us ⊎ Further σ (drop to text) us ts → a ≡ b
      go (inl f) = walks_on w h v k f
      go (inr f) = sym (walks_on v k w h f)
