-- Folding in a piece of a text: what is answered for a tail of it, or for a piece that decides the answer, is answered for
-- the text, places moved by what stands before. Assumes nothing.
use Prim.Native.Nat.{ℕ, ◌+◌, ◌<◌}
use mathlib.Core.Path.{◌≡◌, sym, subst}
use mathlib.Core.List.{List, [], ◌∷◌, ◌++◌}
use native.Mathlib.Omega.{arith}
use lib.ListN.{length, drop, length-append, length-drop}
use lib.Seq.{drop-append-le, drop-append-add}
use Rattle.wat.specs.declared.{Settings.Settings}
use Rattle.wat.specs.declared.TokenKind.TheVariants as kind
use Rattle.wat.specs.declared.Refusal.TheVariants.{Lexical}
use Rattle.wat.specs.Answers as answer
use Rattle.wat_forms.specs.Folded.{Folded}
use Rattle.wat_forms.specs.Folded as folded
use Rattle.wat.specs.{Lexing.Lexed, Calls.Text, Calls.Stands}
use Rattle.wat.specs.Division.{Piece, lengths, Divided, Walked}
use Rattle.wat_laws.proofs.OneCall.{stands_or_rejected}
use Rattle.wat_laws.proofs.Walks.{walked_more}
use Rattle.wat_laws.proofs.WalkParts.{walked_cut}
use Rattle.wat_laws.proofs.Tails.{tail_stands, tail_lexed, tail_walked}
use Rattle.wat_laws.proofs.Slices.{behind}
use Rattle.wat_laws.proofs.WindowCalls.{window_stands, window_left, lexed_at, window_walked, window_walked_last}
use Rattle.wat_forms.specs.Forms.{closes, Form, Halts, Folds}
use Rattle.wat_forms.specs.Windows.{DecidedFold, MovedFold}
use Rattle.wat_forms.proofs.FewBytes.{opens_by_one, close_window, open_front, fault_near}

-- ---- the front of a text

module _ (front rest : List ℕ) (whole : Text (front ++ rest)) where
  -- the closing of a form, which may be the front's last byte
  window_past : {σ : Settings} {pos at d : ℕ} {ts : List Piece} → Walked σ front pos at ts → Form d ts
      → Walked σ (front ++ rest) pos at ts
  window_past {σ} {pos} {at} w (Form.form {opening = o} {closing = c} {inner = inner} p f closes) =
      let k = pos + lengths (o ∷ inner) in
      let last = walked_cut (o ∷ inner) (c ∷ []) w in
      let here = last.0.stands in
      let l : Lexed σ (drop k (front ++ rest)) (answer.Token kind.RParen c.len) =
      rw (drop-append-le k front rest here.within)
      (close_window rest here.between (window_left front rest whole here) (closing last.1.divided)) in
      let more = walked_more σ (front ++ rest) (window_walked_last front rest whole (o ∷ inner) c w).1 l in
      let end : at ≡ k + c.len = omega (arith, last.1.place) in
      subst (λ (i : ℕ). Walked σ (front ++ rest) pos i ((o ∷ inner) ++ (c ∷ []))) (sym end) more
    where
      closing : {s r : List ℕ} {n : ℕ} → Divided σ s (record { kind = kind.RParen; len = n } ∷ []) r
          → Lexed σ s (answer.Token kind.RParen n)
      closing (Divided.more l d) = l

  window_folds : {σ : Settings} {pos : ℕ} {a : Folded} → DecidedFold front pos a → Folds σ front pos a
      → Folds σ (front ++ rest) pos a
  window_folds {pos = pos} (DecidedFold.no_form h) (Folds.elsewhere s n) =
      let long : 1 < length (drop pos front) = omega (arith, length-drop pos front) in
      let same = drop-append-le pos front rest s.within in
      Folds.elsewhere (window_stands front rest whole s)
      (λ m l. n 1 (open_front (drop pos front) rest s.between (window_left front rest whole s) long (rw same at l)))
  window_folds (DecidedFold.no_form h) (Folds.rejected t) = elim t [ ]
  window_folds (DecidedFold.fault n c h) (Folds.rejected t) = elim t [ ]
  window_folds {σ} {pos} d (Folds.walks s w h) = halted d w h
    where
      there : Stands (front ++ rest) pos
      there = window_stands front rest whole s

      halted : {ts : List Piece} {at : ℕ} {a : Folded} → DecidedFold front pos a → Walked σ front pos at ts → Halts σ front ts at a
          → Folds σ (front ++ rest) pos a
      halted (DecidedFold.no_form h) w k = elim k [ ]
      halted DecidedFold.past w (Halts.past f) = Folds.walks there (window_past w f) (Halts.past f)
      halted {at = at} (DecidedFold.fault n c h) w (Halts.fault b l) =
          let near = fault_near l c in
          Folds.walks there (window_walked front rest whole w (omega arith))
          (Halts.fault b (lexed_at front rest whole w.stands l (omega (arith, length-drop at front), n)))
      halted {at = at} (DecidedFold.too_deep h) w (Halts.too_deep b l) =
          let one = opens_by_one l in
          Folds.walks there (window_walked front rest whole w (omega arith))
          (Halts.too_deep b (lexed_at front rest whole w.stands l (omega (arith, length-drop at front))))

-- ---- a tail of a text

module _ (before tail : List ℕ) (whole : Text (before ++ tail)) where
  there : {pos : ℕ} → Stands tail pos → Stands (before ++ tail) (length before + pos)
  there s = tail_stands before tail whole s

  onward : {σ : Settings} {start end : ℕ} {ts : List Piece} → Walked σ tail start end ts
      → Walked σ (before ++ tail) (length before + start) (length before + end) ts
  onward w = tail_walked before tail whole w

  tail_halts : {σ : Settings} {ts : List Piece} {at : ℕ} {a : Folded} → Halts σ tail ts at a
      → (b : Folded) × MovedFold (length before) a b × Halts σ (before ++ tail) ts (length before + at) b
  tail_halts (Halts.past f) = (_, MovedFold.past, Halts.past f)
  tail_halts {σ} {ts} {at} (Halts.fault {f = f} b l) =
      let n = length before in
      let e : n + at + f.place ≡ n + (at + f.place) = omega arith in
      let z : Halts σ (before ++ tail) ts (n + at) (folded.Refused (Lexical f.error) (n + at + f.place)) =
      Halts.fault b (tail_lexed before tail whole at l) in
      (_, MovedFold.fault, rw e at z)
  tail_halts {at = at} (Halts.too_deep b l) = (_, MovedFold.too_deep, Halts.too_deep b (tail_lexed before tail whole at l))
  tail_halts (Halts.left_open b e) =
      let end = length-append before tail in
      (_, MovedFold.unclosed, Halts.left_open b (omega arith))

  -- each answer but 1 to 4
  pub tail_folds : {σ : Settings} {pos : ℕ} {a : Folded} → Stands tail pos → Folds σ tail pos a
      → (b : Folded) × MovedFold (length before) a b × Folds σ (before ++ tail) (length before + pos) b
  tail_folds s (Folds.rejected t) = absurd (stands_or_rejected s t)
  tail_folds {pos = pos} s (Folds.elsewhere s' n) =
      (_, MovedFold.no_form, Folds.elsewhere (there s) (λ m l. n m (rw (drop-append-add before tail pos) at l)))
  tail_folds s (Folds.walks s' w h) = let m = tail_halts h in (m.0, m.1, Folds.walks (there s) (onward w) m.2)

-- ---- a piece anywhere in a text

module _ (before piece rest : List ℕ) (begins : Stands (before ++ (piece ++ rest)) (length before)) where
  pub slice_folds : {σ : Settings} {pos : ℕ} {a : Folded} → DecidedFold piece pos a → Folds σ piece pos a
      → (b : Folded) × MovedFold (length before) a b × Folds σ (before ++ (piece ++ rest)) (length before + pos) b
  slice_folds {σ} {pos} d f =
      let here = behind before piece rest begins in
      tail_folds before (piece ++ rest) begins.sound (window_stands piece rest here (stands d f)) (window_folds piece rest here d f)
    where
      stands : {a : Folded} → DecidedFold piece pos a → Folds σ piece pos a → Stands piece pos
      stands DecidedFold.past (Folds.walks s w h) = s
      stands (DecidedFold.no_form h) (Folds.elsewhere s n) = s
      stands (DecidedFold.no_form h) (Folds.rejected t) = elim t [ ]
      stands (DecidedFold.no_form h) (Folds.walks s w k) = elim k [ ]
      stands (DecidedFold.fault n c h) (Folds.rejected t) = elim t [ ]
      stands (DecidedFold.fault n c h) (Folds.walks s w k) = s
      stands (DecidedFold.too_deep h) (Folds.walks s w k) = s
