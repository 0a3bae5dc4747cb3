-- From the code's steps and errors to the answers of the calls. Assumes nothing.
use Prim.Native.Nat.{ℕ, ◌+◌, ◌-◌, ◌≤◌, ◌<◌}
use mathlib.Core.Path.{◌≡◌, refl, sym, ap, subst, ◌∙◌}
use mathlib.Core.Bool.{true, false}
use mathlib.Core.List.{List, [], ◌∷◌}
use Rattle.std.specs.Prelude.{Option, Some, None}
use native.Mathlib.Omega.{arith}
use lib.ListN.{length, drop, length-drop, drop_of_length-le}
use borrow.Author.Tests.{eqb-true}
use Rattle.wat.specs.declared.{TokenKind.TokenKind, Fault.Fault, Settings.Settings}
use Rattle.wat.specs.Answers.{Answer}
use Rattle.wat.specs.declared.TokenKind.TheVariants as kind
use Rattle.wat.specs.declared.Refusal.TheVariants.{Lexical}
use Rattle.wat.specs.Answers as answer
use Rattle.wat.specs.Found as found
use Rattle.wat.specs.Faults.{fault}
use Rattle.wat.specs.Bytes.{byte}
use Rattle.wat.specs.Utf8.{WellFormed}
use Rattle.wat.specs.Lexing.{Lexed}
use Rattle.wat.specs.LexModel.{next, lex}
use Rattle.wat.specs.Calls.{Text, Stands, AtSign, Parses, Annotates}
use Rattle.wat.proofs.Basics.{differ, never, fault_same}
use Rattle.wat_laws.proofs.{Total.lexed, OneCall.sign_stands}
use Rattle.lex_token.specs.declared.Step.{Step}
use Rattle.lex_token.specs.Steps.{Stepped, Faults}
use Rattle.lex_token.proofs.StepLaws.{token_of, fault_of}
use Rattle.lex_token.proofs.LexLaws.{lexed_within}

-- ---- what is next

pub next_end : (σ : Settings) (text : List ℕ) (pos : ℕ) → pos ≡ length text → Lexed σ (drop pos text) answer.End
next_end σ text pos e = let h : length text ≤ pos = omega arith in Lexed.end (drop_of_length-le text h)

module _ (σ : Settings) (text : List ℕ) (pos : ℕ) {r : Option Step} (s : Stepped σ text pos r) (g : WellFormed (drop pos text)) where
  module _ {x : Step} (e : r ≡ Some x) where
    pub token_onward : pos ≤ x.end
    token_onward = let h = s.onward x e in omega arith

    pub next_token : {k : TokenKind} → k ≡ x.kind → Lexed σ (drop pos text) (answer.Token k (x.end - pos))
    next_token {k} z =
        let t = token_of s e in
        let l : x.end - pos ≡ t.0 = omega (arith, t.2) in
        subst (λ (a : Answer). Lexed σ (drop pos text) a) (t.1 ∙ sym (cc)) (lexed σ g)

  -- the fault, counted from the text's start: it stands at the position or after it
  module _ {f : Fault} (h : pos < length text) (e : r ≡ None) (x : Faults pos (lex σ (drop pos text)) f) where
    pub fault_onward : (pos ≤ f.place) × (pos ≤ f.after)
    fault_onward =
        let t = fault_of s h g e in
        let y = x.is t.0 t.1 in
        (omega (arith, ap (λ (u : Fault). u.place) y), omega (arith, ap (λ (u : Fault). u.after) y))

    pub next_fault : Lexed σ (drop pos text) (answer.Fault (fault f.error (f.place - pos) (f.after - pos)))
    next_fault =
        let t = fault_of s h g e in
        let y = x.is t.0 t.1 in
        let p : t.0.place ≡ f.place - pos = omega (arith, ap (λ (u : Fault). u.place) y) in
        let q : t.0.after ≡ f.after - pos = omega (arith, ap (λ (u : Fault). u.after) y) in
        let er : t.0.error ≡ f.error = sym (ap (λ (u : Fault). u.error) y) in
        let same = fault_same t.0.error p q ∙ ap (λ w. fault w (f.place - pos) (f.after - pos)) er in
        subst (λ (a : Answer). Lexed σ (drop pos text) a) (t.1 ∙ ap answer.Fault same) (lexed σ g)

-- ---- an answer and its bounds, from a position on

module _ (σ : Settings) (text : List ℕ) (pos : ℕ) (b : Stands text pos) {a : Answer} (l : Lexed σ (drop pos text) a) where
  pub answered : {c : Answer} → a ≡ c → Lexed σ (drop pos text) c
  answered e = subst (λ (a : Answer). Lexed σ (drop pos text) a) e l

  pub token_fits : {k : TokenKind} {n : ℕ} → a ≡ answer.Token k n → pos + n ≤ length text
  token_fits e = let w = lexed_within (answered e) in omega (arith, w.1, length-drop pos text, b.within)

  pub fault_fits : {f : Fault} → a ≡ answer.Fault f → (pos + f.place ≤ length text) × (pos + f.after ≤ length text)
  fault_fits e =
      let w = lexed_within (answered e) in
      (omega (arith, w.0, length-drop pos text, b.within), omega (arith, w.1, length-drop pos text, b.within))

-- ---- annotations

module _ (text : List ℕ) (pos : ℕ) where
  pub sign_none : next (byte "@") (drop pos text) ≡ false → AtSign text pos → ⊥
  sign_none n g = never (ap (next (byte "@")) g.1) n

  pub sign_some : next (byte "@") (drop pos text) ≡ true → AtSign text pos
  sign_some n = go (drop pos text) refl n
    where
      go : (t : List ℕ) → drop pos text ≡ t → next (byte "@") t ≡ true → AtSign text pos
      go [] e n = absurd (never n refl)
      go (x ∷ t) e n = (t, e ∙ ap (λ (y : ℕ). y ∷ t) (eqb-true x (byte "@") n))

module _ (σ : Settings) (text : List ℕ) (pos : ℕ) (t : Text text) (g : AtSign text pos) {a : Answer}
    (l : Lexed σ (drop pos text) a) where
  lexes : {c : Answer} → a ≡ c → Lexed σ (drop pos text) c
  lexes e = answered σ text pos (sign_stands text pos t g) l e

  -- an `@` stands there, so that the text does not end
  pub annotation_end : a ≡ answer.End → Annotates σ text pos found.Nothing
  annotation_end e = go (lexes e)
    where
      go : Lexed σ (drop pos text) answer.End → Annotates σ text pos found.Nothing
      go (Lexed.end z) = let y : byte "@" ∷ g.0 ≡ [] = sym g.1 ∙ z in differ (cc)

  pub annotation_fault : {f : Fault} → a ≡ answer.Fault f
      → Annotates σ text pos (found.Refused (Lexical f.error) (pos + f.place))
  annotation_fault e = Annotates.fault t g (lexes e)

  module _ {k : TokenKind} {n : ℕ} (e : a ≡ answer.Token k n) where
    pub annotation_token : k ≡ kind.Annotation → Annotates σ text pos (found.Token (record { kind = k; offset = pos; len = n }))
    annotation_token z = rw z (Annotates.hands_out t g (rw z at (lexes e)))

    pub annotation_other : (k ≡ kind.Annotation → ⊥) → Annotates σ text pos found.Nothing
    annotation_other z = Annotates.other t g z (lexes e)

-- what `next`, `parse` and `annotation` answer
pub ruleset nexts = (next_end, token_onward, next_token, fault_onward, next_fault)

pub ruleset parses = (token_fits, fault_fits, Parses.rejected)

pub ruleset signs = (
  sign_none,
  sign_some,
  sign_stands,
  Annotates.elsewhere,
  token_fits,
  fault_fits,
  annotation_end,
  annotation_fault,
  annotation_token,
  annotation_other,
)
