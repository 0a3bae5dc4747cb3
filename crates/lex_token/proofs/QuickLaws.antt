-- Tokens that no setting says anything of, by the family of their first byte: words, white space and punctuation. Assumes nothing.
use Prim.Native.Nat.{ℕ, ◌+◌, ◌<◌}
use mathlib.Core.Path.{◌≡◌, refl, subst}
use mathlib.Core.Bool.{true, false}
use mathlib.Core.List.{List}
use Rattle.std.specs.Prelude.{Option, Some, None}
use native.Mathlib.Omega.{arith}
use lib.ListN.{length, get_or, drop}
use lib.Seq.{slice}
use Rattle.wat.specs.declared.Family.{Family}
use Rattle.wat.specs.declared.Family.TheVariants.{Spaces as spaces, OpenParen as open_paren}
use Rattle.wat.specs.declared.Settings.{Settings}
use Rattle.wat.specs.Bytes.{byte}
use Rattle.wat.specs.declared.TokenKind.{TokenKind}
use Rattle.wat.specs.declared.TokenKind.TheVariants as kind
use Rattle.wat.specs.Chars.{idchar, space}
use Rattle.wat.specs.Utf8.{WellFormed}
use Rattle.wat.specs.NumberModel.{classify}
use Rattle.wat.specs.LexModel.{family, word_kind, lex_by, next}
use Rattle.wat.proofs.Basics.{differ}
use Rattle.wat.proofs.Families.{family_idchar}
use Rattle.lex_classes.specs.Scan.{Scanned}
use Rattle.lex_classes.proofs.ScanLaws.{passed_none, passed_one, scanned_then}
use Rattle.lex_token.specs.declared.Step.{Step}
use Rattle.lex_token.specs.Steps.{step_of, Stepped, Quick}
use Rattle.lex_token.proofs.StepLaws.{step_token, spaces_step, stepped}
use Rattle.lex_token.proofs.CommentLaws.{open_alone}
use Rattle.lex_token.proofs.ReservedLaws.{word_step}

pub quick_none : {s : List ℕ} {at : ℕ} → Quick s at None
quick_none = record { known = λ x e. differ (cc) }

module _ (s : List ℕ) (at : ℕ) (h : at < length s) (g : WellFormed (drop at s)) where
  pub by_family : {f : Family} {r : Option Step} → family (get_or s at 0) ≡ f
      → ((σ : Settings) → r ≡ step_of at (lex_by σ f (drop at s))) → Quick s at r
  by_family e q = record { known = λ x n σ. stepped σ s at h g e (q σ) }

  pub quick_spaces : {end : ℕ} → family (get_or s at 0) ≡ spaces → Scanned space true s (at + 1) end
      → Quick s at (Some (record { kind = kind.Whitespace; end = end }))
  quick_spaces f c = by_family f (λ σ. spaces_step s at h f c)

  pub quick_open : family (get_or s at 0) ≡ open_paren → next (byte ";") (drop (at + 1) s) ≡ false
      → Quick s at (Some (record { kind = kind.LParen; end = at + 1 }))
  quick_open f n = by_family f (λ σ. step_token at (open_alone σ s at n) refl)

  module _ (e : idchar (get_or s at 0) ≡ true) {i : ℕ} (c : Scanned idchar true s (at + 1) i) where
    pub quick_word : {k : TokenKind} → next (byte "\"") (drop i s) ≡ false
        → k ≡ word_kind (classify (slice at i s)) (get_or s at 0) → Quick s at (Some (record { kind = k; end = i }))
    quick_word q w =
        let one = passed_one idchar true s at at (passed_none idchar true s at (omega arith)) h e in
        let whole = scanned_then idchar true s at (at + 1) i one c in
        by_family (family_idchar _ e) (λ σ. word_step σ s at i whole g q (omega (arith, c.end)) w)

-- a step that is known is the answer's
pub quick_known : (σ : Settings) (s : List ℕ) (at : ℕ) (r : Option Step) (x : Step) → Quick s at r → r ≡ Some x
    → Stepped σ s at (Some x)
quick_known σ s at r x q e = subst (Stepped σ s at) e (q.known x e σ)

pub ruleset quicks = (quick_none, by_family, quick_spaces, quick_open, quick_word)
