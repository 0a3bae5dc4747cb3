-- A form that folds is balanced, each form that is met in it folds, and ends inside it; under looser settings it folds to
-- the same place; and in a text that is divided to its end no error of lexing is answered. Assumes nothing.
use Prim.Native.Nat.{ℕ, ◌+◌, ◌≤◌, ◌<◌}
use mathlib.Core.Path.{◌≡◌, refl, sym, ap, ◌∙◌, subst}
use mathlib.Core.Logic.{◌⊎◌, inl, inr}
use mathlib.Core.List.{List, [], ◌∷◌, ◌++◌, append-nil}
use native.Mathlib.Omega.{arith}
use lib.ListN.{drop}
use Rattle.wat.specs.declared.{TokenKind.TokenKind, Settings.Settings}
use Rattle.wat.specs.declared.TokenKind.TheVariants as kind
use Rattle.wat.specs.Answers as answer
use Rattle.wat_forms.specs.Folded.{Folded}
use Rattle.wat_forms.specs.Folded as folded
use Rattle.wat.specs.{Settings.lenient, Lexing.Lexed, Division.Piece, Division.lengths, Division.Divided, Division.Walked}
use Rattle.wat.proofs.{Basics.differ, Unique.token_same, Unique.lexed_one}
use Rattle.wat_laws.specs.Looser.{Looser}
use Rattle.wat_laws.proofs.{SettingLaws.looser_lenient}
use Rattle.wat_laws.proofs.Divisions.{divided_some, lengths_append, ended_one, ended_nil, ended_fault}
use Rattle.wat_laws.proofs.{OneCall.stands_or_rejected, Walks.walked_then, Walks.walked_looser}
use Rattle.wat_laws.proofs.WalkParts.{walked_cut}
use Rattle.wat_forms.specs.Forms.{deepest, Opens, opens, Form, Halts, Folds}
use Rattle.wat_forms.specs.Balance.{up, down, openings, closings, Balanced, WholeForm, Structural}
use Rattle.wat_forms.proofs.Balances.{count_append, form_balanced, Within, form_holds}
use Rattle.wat_forms.proofs.FoldLaws.{Further, divided_further}

is_opening : (v : Piece) → v.kind ≡ kind.LParen → Opens v
is_opening v e = subst (λ (k : TokenKind). Opens (record { kind = k; len = v.len })) (sym e) opens

-- a form at the end of a balanced run of tokens is all of it
not_last : {d : ℕ} {ts : List Piece} (us vs : List Piece) (v : Piece) → Balanced ts → Form d (v ∷ vs) → ts ≡ us ++ (v ∷ vs)
    → us ≡ []
not_last [] vs v b f e = refl
not_last (u ∷ us) vs v b f e =
    let c = form_balanced f in
    let h = b.more u us v vs e in
    let x = ap openings e ∙ count_append up (u ∷ us) (v ∷ vs) in
    let y = ap closings e ∙ count_append down (u ∷ us) (v ∷ vs) in
    absurd (omega (arith, b.same, c.same, h, x, y))

-- tokens that stand in a text and are some have bytes
some_bytes : {σ : Settings} {s rest : List ℕ} {ts : List Piece} → Divided σ s ts rest → (ts ≡ []) ⊎ (0 < lengths ts)
some_bytes Divided.none = inl refl
some_bytes (Divided.more {t = t} l d) = let h = (divided_some (Divided.more {t = t} l d)).0 in inr (omega arith)

module _ {σ : Settings} {text : List ℕ} {start end : ℕ} {ts : List Piece} (w : Walked σ text start end ts) (f : Form deepest ts) where
  abbrev Inner : ℕ → Type 0
  Inner at = (past : ℕ) × Folds σ text at (folded.Past past) × (past ≤ end) × (start < at → past < end)

  -- an opening among the form's tokens: the form that it begins
  inner_at : {at : ℕ} (us : List Piece) (v : Piece) (vs : List Piece) → Walked σ text start at us → ts ≡ us ++ (v ∷ vs)
      → Opens v → Inner at
  inner_at {at} us v vs u e p =
      let h = form_holds f us v vs e p in
      let whole : Walked σ text start end (us ++ (v ∷ vs)) = subst (λ (l : List Piece). Walked σ text start end l) e w in
      let rest : Walked σ text at end (v ∷ vs) =
      subst (λ (i : ℕ). Walked σ text i end (v ∷ vs)) (sym u.place) (walked_cut us (v ∷ vs) whole).1 in
      let both : Walked σ text at end (h.form ++ h.rest) =
      subst (λ (l : List Piece). Walked σ text at end l) h.parts rest in
      let c = walked_cut h.form h.rest both in
      let long = c.1.place in (
        at + lengths h.form,
        Folds.walks u.stands c.0 (Halts.past h.is),
        omega arith,
        λ i. inside h long i (some_bytes c.1.divided),
      )
    where
      inside : (h : Within deepest (v ∷ vs)) → end ≡ at + lengths h.form + lengths h.rest → start < at
          → (h.rest ≡ []) ⊎ (0 < lengths h.rest) → at + lengths h.form < end
      inside h z i (inl q) =
          let g : Form deepest (v ∷ vs) =
          subst (λ (l : List Piece). Form deepest l)
          (sym (h.parts ∙ ap (λ (l : List Piece). h.form ++ l) q ∙ append-nil h.form)) h.is in
          let n : lengths us ≡ 0 = ap lengths (not_last us vs v (form_balanced f) g e) in
          absurd (omega (arith, u.place))
      inside h z i (inr b) = omega arith

  inner : (us : List Piece) (at n : ℕ) → Walked σ text start at us → at < end
      → Lexed σ (drop at text) (answer.Token kind.LParen n) → Inner at
  inner us at n u b l = go (divided_further u.divided w.divided)
    where
      go : Further σ (drop at text) us ts ⊎ Further σ (drop end text) ts us → Inner at
      go (inl ([], r, e, x)) =
          let same = ap lengths (e ∙ append-nil us) in
          absurd (omega (arith, w.place, u.place))
      go (inl (v ∷ vs, r, e, Divided.more m d)) =
          inner_at us v vs u e (is_opening v (token_same (lexed_one m l)).0)
      go (inr (vs, r, e, x)) =
          let same = ap lengths e ∙ lengths_append ts vs in
          absurd (omega (arith, w.place, u.place))

pub folds_whole : {σ : Settings} {text : List ℕ} {start end : ℕ} → Folds σ text start (folded.Past end)
    → WholeForm σ text start end
folds_whole (Folds.walks {ts = ts} s w (Halts.past f)) =
    record { tokens = ts; walked = w; form = f; balanced = form_balanced f; inner = inner w f }

pub folds_looser : {σ τ : Settings} {text : List ℕ} {start end : ℕ} → Looser σ τ → Folds σ text start (folded.Past end)
    → Folds τ text start (folded.Past end)
folds_looser o (Folds.walks s w (Halts.past f)) = Folds.walks s (walked_looser o s.between w) (Halts.past f)

pub folds_lenient : {σ : Settings} {text : List ℕ} {start end : ℕ} → Folds σ text start (folded.Past end)
    → Folds lenient text start (folded.Past end)
folds_lenient {σ} f = folds_looser (looser_lenient σ) f

-- a place between tokens of a text that is divided to its end
pub folds_listed : {σ : Settings} {text : List ℕ} {pos : ℕ} {ts us : List Piece} {a : Folded} → Divided σ text ts []
    → Walked σ text 0 pos us → Folds σ text pos a → Structural a
folds_listed d u (Folds.rejected t) = absurd (stands_or_rejected u.stands t)
folds_listed d u (Folds.elsewhere s n) = Structural.no_form
folds_listed {σ} {text} {pos} d u (Folds.walks s w h) = halted w h
  where
    halted : {ts : List Piece} {at : ℕ} {a : Folded} → Walked σ text pos at ts → Halts σ text ts at a → Structural a
    halted w (Halts.past f) = Structural.past
    halted w (Halts.fault b l) =
        let e = (ended_one (walked_then σ text u w).divided (ended_fault l) d ended_nil).1 in
        let z = lexed_one l (Lexed.end e) in
        differ (cc)
    halted w (Halts.too_deep b l) = Structural.too_deep
    halted w (Halts.left_open b e) = Structural.unclosed
