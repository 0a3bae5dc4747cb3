-- The search for a confusing character in a comment does not depend on what follows the comment. Assumes nothing.
use Prim.Native.Nat.{ℕ, zero, suc, ◌+◌, ◌≤◌, ◌<◌}
use mathlib.Core.Path.{◌≡◌, refl, sym, ap, ◌∙◌}
use mathlib.Core.List.{List, ◌++◌, append_assoc}
use mathlib.Core.Bool.{Bool, true, false}
use native.Mathlib.Omega.{arith}
use lib.ListN.{length, take, drop, length-append, take-append-drop}
use lib.Seq.{length-take-le}
use borrow.Author.Tests.{le-ltb}
use Rattle.wat.specs.declared.{TokenKind.TokenKind, Settings.Settings}
use Rattle.wat.specs.Answers.{Answer}
use Rattle.wat.specs.Answers as answer
use Rattle.wat.specs.Utf8.{scalar, WellFormed, empty, more}
use Rattle.wat.specs.Chars.{confusing}
use Rattle.wat.specs.StringModel.{char}
use Rattle.wat.specs.declared.Hidden.{Hidden}
use Rattle.wat.specs.declared.Hidden.TheVariants.{Clear as clear, Found as found}
use Rattle.wat.specs.LexModel.{beyond, hidden_by, hidden, comment_by, comment}
use Rattle.wat.proofs.Scalars.{peek_char}
use Rattle.wat_laws.proofs.NoFault.{char_some}

-- no confusing character is found before the n-th byte
abbrev Past : ℕ → Hidden → Type 0
Past n clear = Unit {0}
Past n (found p c) = n ≤ p

-- two searches find the same in the first n bytes
data Alike (n : ℕ) : Hidden → Hidden → Type 0 where
  same : {h : Hidden} → Alike n h h
  past : {h h' : Hidden} → Past n h → Past n h' → Alike n h h'

past_none : (h : Hidden) → Past 0 h
past_none clear = tt
past_none (found p c) = omega arith

past_beyond : (m n : ℕ) (h : Hidden) → Past n h → Past (m + n) (beyond m h)
past_beyond m n clear p = tt
past_beyond m n (found q c) p = omega arith

alike_beyond : (m : ℕ) {n : ℕ} {h h' : Hidden} → Alike n h h' → Alike (m + n) (beyond m h) (beyond m h')
alike_beyond m same = same
alike_beyond m {n} (past {h = h} {h' = h'} p q) = past (past_beyond m n h p) (past_beyond m n h' q)

past_comment : (k : TokenKind) (n : ℕ) (h : Hidden) → Past n h → comment_by k n h ≡ answer.Token k n
past_comment k n clear p = refl
past_comment k n (found q c) p = rw (le-ltb q n p, comment_by)

alike_comment : (k : TokenKind) {n : ℕ} {h h' : Hidden} → Alike n h h' → comment_by k n h ≡ comment_by k n h'
alike_comment k same = refl
alike_comment k {n} (past {h = h} {h' = h'} p q) = past_comment k n h p ∙ sym (past_comment k n h' q)

hidden_alike : {w : List ℕ} (u v : List ℕ) (f g : ℕ) → WellFormed w → length w < f → length w < g
    → Alike (length w) (hidden f (w ++ u)) (hidden g (w ++ v))
unfolding hidden
hidden_alike u v f g empty h k = past (past_none (hidden f u)) (past_none (hidden g v))
hidden_alike u v zero g (more ch w) h k = absurd (omega arith)
hidden_alike u v (suc f) zero (more ch w) h k = absurd (omega arith)
hidden_alike u v (suc f) (suc g) (more {c = c} {t = t} ch w) h k =
    let l = length-append c t in
    let o = char_some c ch in
    rw (l, append_assoc c t u, append_assoc c t v, peek_char c (t ++ u) ch, peek_char c (t ++ v) ch)
    (go (confusing (scalar c)) refl (hidden_alike u v f g w (omega arith) (omega arith)))
  where
    go : (b : Bool) → confusing (scalar c) ≡ b → Alike (length t) (hidden f (t ++ u)) (hidden g (t ++ v))
        → Alike (length c + length t) (hidden_by (char c (t ++ u)) (λ y. hidden f y)) (hidden_by (char c (t ++ v)) (λ y. hidden g y))
    go true e i = rw (e, hidden_by) same
    go false e i = rw (e, hidden_by) (alike_beyond (length c) i)

-- a comment of n bytes
pub comment_window : (σ : Settings) (k : TokenKind) (n : ℕ) (s r : List ℕ) → n ≤ length s → WellFormed (take n s)
    → comment σ k n (s ++ r) ≡ comment σ k n s
unfolding comment
comment_window σ k n s r h g =
    ap (λ (a : Answer). elim σ.allow_confusing [ true ↦ answer.Token k n | false ↦ a ]) (alike_comment k alike)
  where
    long : length (take n s) ≡ n
    long = length-take-le n s h

    alike : Alike n (hidden (suc (length (s ++ r))) (s ++ r)) (hidden (suc (length s)) s)
    alike =
        let a =
        hidden_alike (drop n s ++ r) (drop n s) (suc (length (s ++ r))) (suc (length s)) g
        (omega (arith, long, length-append s r)) (omega (arith, long)) in
        rw (long, sym (append_assoc (take n s) (drop n s) r), take-append-drop n s) at a
