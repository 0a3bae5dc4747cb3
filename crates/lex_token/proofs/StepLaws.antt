-- From an answer to the code's step, and back. Assumes nothing.
use Prim.Native.Nat.{ℕ, ◌+◌, ◌≤◌, ◌<◌}
use mathlib.Core.Path.{◌≡◌, refl, sym, ap, ◌∙◌}
use mathlib.Core.Bool.{true}
use mathlib.Core.List.{List, []}
use native.Mathlib.Omega.{arith}
use native.Mathlib.Numerals.{add-one}
use lib.ListN.{length, get_or, drop, length-drop}
use lib.Seq.{drop-cons}
use Rattle.std.specs.Prelude.{Some, None, Ok, Err, Option}
use Rattle.wat.specs.declared.TokenKind.{TokenKind}
use Rattle.wat.specs.declared.TokenKind.TheVariants as kind
use Rattle.wat.specs.declared.Fault.{Fault}
use Rattle.wat.specs.Answers.{Answer}
use Rattle.wat.specs.Answers as answer
use Rattle.wat.specs.declared.Settings.{Settings}
use Rattle.wat.specs.Utf8.{WellFormed}
use Rattle.wat.specs.Chars.{space}
use Rattle.wat.specs.Lexing.{Lexed}
use Rattle.wat.specs.StringModel.{Peek, nothing, char, peek}
use Rattle.wat.specs.LexModel as lex
use Rattle.wat.specs.declared.Family.{Family}
use Rattle.wat.specs.declared.Family.TheVariants.{Spaces as spaces, OpenParen as open_paren, Semi as semi, Run as run}
use Rattle.wat.specs.LexModel.{family, count, lex_by}
use Rattle.wat.proofs.Basics.{differ}
use Rattle.wat.proofs.Families.{Families, is_space, is_open, is_close, is_semi, is_single, is_char, is_quote, is_other, families}
use Rattle.wat_laws.proofs.Total.{lexed}
use Rattle.lex_classes.specs.Scan.{Scanned}
use Rattle.lex_token.specs.declared.Step.{Step}
use Rattle.lex_token.specs.Steps.{step_of, Stepped}
use Rattle.lex_token.proofs.LexLaws.{lex_family, Within, lex_within}

module _ (at : ℕ) {a : Answer} where
  pub step_token :
      {k : TokenKind} {n end : ℕ} → a ≡ answer.Token k n → end ≡ at + n
      → Some (record { kind = k; end = end }) ≡ step_of at a
  step_token e l = rw (e, l)

  pub step_fault : {f : Fault} → a ≡ answer.Fault f → None ≡ step_of at a
  step_fault e = rw e

-- white space: the first byte is seen already
pub spaces_step : (s : List ℕ) (at : ℕ) {end : ℕ} → at < length s → family (get_or s at 0) ≡ spaces
    → Scanned space true s (at + 1) end
    → Some (record { kind = kind.Whitespace; end = end })
    ≡ step_of at (answer.Token kind.Whitespace (count space true (drop at s)))
unfolding count
spaces_step s at h f c = step_token at {k = kind.Whitespace} refl (c.end ∙ more (families (get_or s at 0)) f)
  where
    more :
        {g : Family} → Families (get_or s at 0) g → g ≡ spaces
        → at + 1 + count space true (drop (at + 1) s) ≡ at + count space true (drop at s)
    more (is_space p) e = rw (add-one at, drop-cons s at 0 h, p, count) (omega arith)
    more (is_open p) e = differ (cc)
    more (is_close p) e = differ (cc)
    more (is_semi p) e = differ (cc)
    more (is_single p n) e = differ (cc)
    more (is_char p) e = differ (cc)
    more (is_quote p) e = differ (cc)
    more (is_other p) e = differ (cc)

-- no token
pub other_step : (at : ℕ) (t : List ℕ) → None ≡ step_of at (lex.other_by (peek t))
other_step at t = go (peek t)
  where
    go : (p : Peek) → None ≡ step_of at (lex.other_by p)
    go nothing = refl
    go (char c u) = refl

-- how far a step goes
abbrev Reaches : List ℕ → ℕ → Option Step → Type 0
Reaches s at r = (x : Step) → r ≡ Some x → (at < x.end) × (x.end ≤ length s)

pub stepped :
    (σ : Settings) (s : List ℕ) (at : ℕ) {f : Family} {r : Option Step}
    → at < length s → WellFormed (drop at s) → family (get_or s at 0) ≡ f → r ≡ step_of at (lex_by σ f (drop at s))
    → Stepped σ s at r
stepped σ s at {f} {r} h g e q =
    record { same = same; onward = λ x y. (reach x (sym same ∙ y)).0; within = λ x y. (reach x (sym same ∙ y)).1 }
  where
    same : r ≡ step_of at (lex.lex σ (drop at s))
    same = q ∙ ap (step_of at) (sym (lex_family σ s at h e))

    go : (a : Answer) → Within (drop at s) a → Reaches s at (step_of at a)
    go (Ok None) w x y = differ (cc)
    go (Ok (Some l)) w x y =
        let z : at + l.len ≡ x.end = cc in
        (omega (arith, w.0), omega (arith, w.1, length-drop at s))
    go (Err f) w x y = differ (cc)

    reach : Reaches s at (step_of at (lex.lex σ (drop at s)))
    reach = go (lex.lex σ (drop at s)) (lex_within σ g)

-- ---- back to the answer

module _ {σ : Settings} {s : List ℕ} {at : ℕ} {r : Option Step} (q : Stepped σ s at r) where
  pub token_of :
      {x : Step} → r ≡ Some x → (n : ℕ) × (lex.lex σ (drop at s) ≡ answer.Token x.kind n) × (x.end ≡ at + n)
  token_of {x} z = go (lex.lex σ (drop at s)) refl (sym z ∙ q.same)
    where
      go :
          (a : Answer) → lex.lex σ (drop at s) ≡ a → Some x ≡ step_of at a
          → (n : ℕ) × (lex.lex σ (drop at s) ≡ answer.Token x.kind n) × (x.end ≡ at + n)
      go (Ok None) e p = differ (cc)
      go (Ok (Some l)) e p =
          let y : x ≡ record { kind = l.kind; end = at + l.len } = cc in
          (l.len, e ∙ ap (λ (j : TokenKind). answer.Token j l.len) (sym (ap (λ (x : Step). x.kind) y)), ap (λ (x : Step). x.end) y)
      go (Err f) e p = differ (cc)

  pub fault_of : at < length s → WellFormed (drop at s) → r ≡ None → (f : Fault) × (lex.lex σ (drop at s) ≡ answer.Fault f)
  fault_of h g z = go (lex.lex σ (drop at s)) refl (lexed σ g) (sym z ∙ q.same)
    where
      left : drop at s ≡ [] → ⊥
      left e = omega (arith, length-drop at s, ap length e)

      go :
          (a : Answer) → lex.lex σ (drop at s) ≡ a → Lexed σ (drop at s) a → None ≡ step_of at a
          → (f : Fault) × (lex.lex σ (drop at s) ≡ answer.Fault f)
      go (Ok None) e (Lexed.end n) p = absurd (left n)
      go (Ok (Some l)) e w p = differ (cc)
      go (Err x) e l p = (x, e)

-- the families that a function of their own reads
module _ (σ : Settings) (s : List ℕ) (at : ℕ) (r : Option Step) where
  pub stepped_open :
      r ≡ step_of at (lex_by σ open_paren (drop at s)) → family (get_or s at 0) ≡ open_paren → at < length s
      → WellFormed (drop at s) → Stepped σ s at r
  stepped_open q e h g = stepped σ s at h g e q

  pub stepped_semi :
      r ≡ step_of at (lex_by σ semi (drop at s)) → family (get_or s at 0) ≡ semi → at < length s → WellFormed (drop at s)
      → Stepped σ s at r
  stepped_semi q e h g = stepped σ s at h g e q

  pub stepped_run :
      r ≡ step_of at (lex_by σ run (drop at s)) → family (get_or s at 0) ≡ run → at < length s → WellFormed (drop at s)
      → Stepped σ s at r
  stepped_run q e h g = stepped σ s at h g e q

pub ruleset steps = (spaces_step, other_step, stepped, stepped_open, stepped_semi, stepped_run)
