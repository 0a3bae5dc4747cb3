-- From an answer to the error that the code gives for it. Assumes nothing.
use Prim.Native.Nat.{ℕ, suc, ◌+◌, ◌-◌, ◌≤◌, ◌<◌}
use mathlib.Core.Path.{◌≡◌, refl, sym, ap, subst, ◌∙◌}
use mathlib.Core.Logic.{◌⊎◌, inl, inr, ⊎_elim}
use mathlib.Core.Bool.{Bool, true, false}
use mathlib.Core.List.{List}
use native.Mathlib.Omega.{arith}
use native.Mathlib.Nat.{add-zero}
use lib.Dec.{ltb}
use lib.ListN.{length, get_or, drop}
use Rattle.wat.specs.declared.TokenKind.{TokenKind}
use Rattle.wat.specs.declared.TokenKind.TheVariants as kind
use Rattle.wat.specs.declared.LexError.{LexError}
use Rattle.wat.specs.declared.LexError.TheVariants.{ConfusingUnicode}
use Rattle.wat.specs.Answers.{Answer}
use Rattle.wat.specs.Answers as answer
use Rattle.wat.specs.Bytes.{byte}
use Rattle.wat.specs.declared.Settings.{Settings}
use Rattle.wat.specs.Chars.{newline}
use Rattle.wat.specs.declared.Hidden.{Hidden}
use Rattle.wat.specs.declared.Family.{Family}
use Rattle.wat.specs.declared.Family.TheVariants.{Semi as semi}
use Rattle.wat.specs.declared.Hidden.TheVariants.{Clear as clear, Found as found}
use Rattle.wat.specs.LexModel.{next, hidden, comment, family, lex_by, lex}
use Rattle.wat.proofs.Basics.{differ, fault_same}
use Rattle.lex_classes.specs.Scan.{Scanned}
use Rattle.wat.specs.declared.Hidden.TheVariants.{Clear, Found}
use Rattle.lex_comments.specs.Confusing.{before, hidden_in}
use Rattle.wat.specs.declared.Fault.{Fault}
use Rattle.wat.specs.Faults.{fault, shift}
use Rattle.lex_token.specs.Steps.{Faults}
use Rattle.lex_token.proofs.LexLaws.{lex_family}
use Rattle.lex_token.proofs.CommentLaws.{found_as, comment_on, comment_off, semi_alone, semi_comment}
use Rattle.lex_token.proofs.CommentLaws.{open_alone, open_within, block_open, block_onward, block_within}

module _ {at : ℕ} {a : Answer} {f : Fault} where
  pub fault_none : {k : TokenKind} {n : ℕ} → a ≡ answer.Token k n → Faults at a f
  fault_none e = record { is = λ x q. differ (cc) }

  pub fault_is : {x : Fault} → a ≡ answer.Fault x → f ≡ shift at x → Faults at a f
  fault_is {x} q l = record { is = λ y z. let k : answer.Fault x ≡ answer.Fault y = cc in let d : x ≡ y = cc in l ∙ ap (shift at) d }

-- an error at the place itself, with nothing consumed
pub fault_here : {at : ℕ} {a : Answer} {e : LexError} → a ≡ answer.Fault (fault e 0 0) → Faults at a (fault e at at)
fault_here {at} {a} {e} q = fault_is q (fault_same e (sym (add-zero at)) (sym (add-zero at)))

-- ---- comments

found_onward : (at end : ℕ) (h : Hidden) {p c : ℕ} → hidden_in at end h ≡ Found p c → at ≤ p
found_onward at end clear e = differ (cc)
found_onward at end (found n x) {p} {c} e = go (ltb (at + n) end) refl e
  where
    go : (b : Bool) → ltb (at + n) end ≡ b → before end (at + n) x ≡ Found p c → at ≤ p
    go true z e =
        let k : Found (at + n) x ≡ Found p c = rw (z, before) at e in
        let q : at + n ≡ p = cc in
        omega arith
    go false z e =
        let k : Clear ≡ Found p c = rw (z, before) at e in
        let y : ◌≡◌ {A = ℕ} 0 1 = cc in
        omega arith

module _ (s : List ℕ) (at end : ℕ) (l : at ≤ end) {r : Hidden}
    (h : r ≡ hidden_in at end (hidden (suc (length (drop at s))) (drop at s))) where
  answers :
      (σ : Settings) (k : TokenKind) (b : Bool) → σ.allow_confusing ≡ b
      → (comment σ k (end - at) (drop at s) ≡ answer.Token k (end - at))
      ⊎ (comment σ k (end - at) (drop at s) ≡ found_as k at end r)
  answers σ k true e = inl (comment_on k s at end σ e)
  answers σ k false e = inr (comment_off k s at end σ e l h)

  pub comment_clear : {f : Fault} → r ≡ Clear → (σ : Settings) (k : TokenKind) → Faults at (comment σ k (end - at) (drop at s)) f
  comment_clear z σ k =
      ⊎_elim (λ e. fault_none e) (λ e. fault_none (e ∙ ap (found_as k at end) z)) (answers σ k σ.allow_confusing refl)

  pub comment_found :
      {p c : ℕ} → r ≡ Found p c → (σ : Settings) (k : TokenKind)
      → Faults at (comment σ k (end - at) (drop at s)) (fault (ConfusingUnicode c) p end)
  comment_found {p} {c} z σ k =
      ⊎_elim (λ e. fault_none e) (λ e. fault_is (e ∙ ap (found_as k at end) z) here) (answers σ k σ.allow_confusing refl)
    where
      here : fault (ConfusingUnicode c) p end ≡ shift at (fault (ConfusingUnicode c) (p - at) (end - at))
      here =
          let a = found_onward at end (hidden (suc (length (drop at s))) (drop at s)) (sym h ∙ z) in
          fault_same (ConfusingUnicode c) (omega arith) (omega arith)

-- the error of a line comment is that of `;`
pub line_faults :
    (σ : Settings) (s : List ℕ) (at : ℕ) {end : ℕ} {f : Fault}
    → Scanned newline false s at end → ((k : TokenKind) → Faults at (comment σ k (end - at) (drop at s)) f)
    → Faults at (lex_by σ semi (drop at s)) f
line_faults σ s at {end} {f} c h = go (next (byte ";") (drop (at + 1) s)) refl
  where
    go : (b : Bool) → next (byte ";") (drop (at + 1) s) ≡ b → Faults at (lex_by σ semi (drop at s)) f
    go true e = subst (λ (a : Answer). Faults at a f) (sym (semi_comment σ s at e c)) (h kind.LineComment)
    go false e = fault_none (semi_alone σ s at e)

-- the error of a byte's family is the error there
pub family_fault :
    (σ : Settings) (s : List ℕ) (at : ℕ) {g : Family} {f : Fault} → at < length s → family (get_or s at 0) ≡ g
    → Faults at (lex_by σ g (drop at s)) f → Faults at (lex σ (drop at s)) f
family_fault σ s at {f = f} h e q = subst (λ (a : Answer). Faults at a f) (sym (lex_family σ s at h e)) q

-- the errors of a comment and of a block comment
pub ruleset comment_faults = (comment_clear, comment_found)

pub ruleset block_faults = (fault_none, fault_here, open_alone, open_within, block_open, block_onward, block_within)
