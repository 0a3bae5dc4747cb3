-- What the code says of a comment, and the model's answer. Assumes nothing.
use Prim.Native.Nat.{ℕ, suc, ◌+◌, ◌-◌, ◌≤◌, ◌<◌}
use mathlib.Core.Path.{◌≡◌, refl, sym, ap, ◌∙◌}
use mathlib.Core.Bool.{Bool, true, false}
use mathlib.Core.List.{List, [], ◌∷◌}
use mathlib.Core.Option.{none, some}
use Rattle.std.specs.Prelude.{Option, Some, None}
use native.Mathlib.Omega.{arith}
use lib.Dec.{ltb}
use lib.ListN.{length, get_or, drop, length-drop}
use lib.Seq.{drop-drop}
use borrow.Author.Tests.{ltb-true, ltb-false, lt-ltb, le-ltb, eqb-false}
use Rattle.wat.specs.Faults.{fault}
use Rattle.wat.specs.declared.TokenKind.{TokenKind}
use Rattle.wat.specs.declared.TokenKind.TheVariants as kind
use Rattle.wat.specs.declared.LexError.TheVariants.{DanglingBlockComment, ConfusingUnicode}
use Rattle.wat.specs.Answers.{Answer}
use Rattle.wat.specs.Answers as answer
use Rattle.wat.specs.Bytes.{byte}
use Rattle.wat.specs.declared.Settings.{Settings}
use Rattle.wat.specs.Utf8.{WellFormed}
use Rattle.wat.specs.Chars.{newline}
use Rattle.wat.specs.CommentModel.{fresh, ends}
use Rattle.wat.specs.declared.Hidden.{Hidden}
use Rattle.wat.specs.declared.Family.TheVariants.{Semi as semi, OpenParen as open_paren}
use Rattle.wat.specs.declared.Hidden.TheVariants.{Clear as clear, Found as found}
use Rattle.wat.specs.LexModel.{next, hidden, comment_by, comment, block_by, lex_by}
use Rattle.wat.proofs.Basics.{never}
use Rattle.lex_classes.specs.Scan.{Scanned}
use Rattle.wat.specs.declared.Hidden.TheVariants.{Clear, Found}
use Rattle.lex_comments.specs.Ends.{line_stop, BlockEnd}
use Rattle.lex_comments.proofs.BlockLaws.{open_none, closed_some, closed_onward}
use Rattle.lex_comments.specs.Confusing.{before, hidden_in}
use Rattle.lex_comments.proofs.LineLaws.{line_ends_lem, line_hides_nothing, line_goes_on}
use Rattle.lex_token.proofs.SliceLaws.{next_byte}
use Rattle.lex_token.specs.declared.Step.{Step}
use Rattle.lex_token.specs.Steps.{step_of}
use Rattle.lex_token.proofs.StepLaws.{step_token}

-- ---- confusing characters

-- what the code finds, as an answer
abbrev pub found_as : TokenKind → ℕ → ℕ → Hidden → Answer
found_as k at end Clear = answer.Token k (end - at)
found_as k at end (Found p c) = answer.Fault (fault (ConfusingUnicode c) (p - at) (end - at))

commented : (k : TokenKind) (at end : ℕ) → at ≤ end → (h : Hidden)
    → comment_by k (end - at) h ≡ found_as k at end (hidden_in at end h)
commented k at end l clear = refl
commented k at end l (found p c) = go (ltb p (end - at)) refl
  where
    go : (b : Bool) → ltb p (end - at) ≡ b → comment_by k (end - at) (found p c) ≡ found_as k at end (hidden_in at end (found p c))
    go true e =
        let h : at + p < end = let g = ltb-true p (end - at) e in omega arith in
        let q : hidden_in at end (found p c) ≡ Found (at + p) c = rw (lt-ltb (at + p) end h, before) in
        let d : p ≡ at + p - at = omega arith in
        rw (e, comment_by) (ap (λ (n : ℕ). answer.Fault (fault (ConfusingUnicode c) n (end - at))) d ∙ ap (found_as k at end) (sym q))
    go false e =
        let h : end ≤ at + p = let g = ltb-false p (end - at) e in omega arith in
        let q : hidden_in at end (found p c) ≡ Clear = rw (le-ltb (at + p) end h, before) in
        rw (e, comment_by) (ap (found_as k at end) (sym q))

module _ (k : TokenKind) (s : List ℕ) (at end : ℕ) (σ : Settings) where
  pub comment_on : σ.allow_confusing ≡ true → comment σ k (end - at) (drop at s) ≡ answer.Token k (end - at)
  unfolding comment
  comment_on e = rw (e, comment)

  pub comment_off :
      {r : Hidden} → σ.allow_confusing ≡ false → at ≤ end
      → r ≡ hidden_in at end (hidden (suc (length (drop at s))) (drop at s))
      → comment σ k (end - at) (drop at s) ≡ found_as k at end r
  unfolding comment
  comment_off e l q =
      rw (e, comment) (commented k at end l (hidden (suc (length (drop at s))) (drop at s)) ∙ ap (found_as k at end) (sym q))

  -- nothing in it is confusing: it stands under any settings
  pub comment_plain :
      at ≤ end → hidden_in at end (hidden (suc (length (drop at s))) (drop at s)) ≡ Clear
      → comment σ k (end - at) (drop at s) ≡ answer.Token k (end - at)
  comment_plain l q = go σ.allow_confusing refl
    where
      go : (b : Bool) → σ.allow_confusing ≡ b → comment σ k (end - at) (drop at s) ≡ answer.Token k (end - at)
      go true e = comment_on e
      go false e = comment_off e l (sym q)

-- ---- comments by their marks

pub open_within : (s : List ℕ) (at : ℕ) → next (byte ";") (drop (at + 1) s) ≡ true → at + 2 ≤ length s
open_within s at n = go (drop (at + 1) s) refl n
  where
    go : (t : List ℕ) → drop (at + 1) s ≡ t → next (byte ";") t ≡ true → at + 2 ≤ length s
    go [] e n = absurd (never n refl)
    go (x ∷ t) e n = omega (arith, length-drop (at + 1) s, ap length e)

block_none : (s : List ℕ) (at : ℕ) → BlockEnd s (at + 2) None → ends fresh 0 (drop (at + 2) s) ≡ none
block_none s at e = open_none (at + 2) (ends fresh 0 (drop (at + 2) s)) e.end

module _ (s : List ℕ) (at : ℕ) {end : ℕ} (e : BlockEnd s (at + 2) (Some end)) where
  block_some : ends fresh 0 (drop (at + 2) s) ≡ some (end - (at + 2))
  block_some = closed_some (at + 2) end (ends fresh 0 (drop (at + 2) s)) e.end

  pub block_onward : at + 2 ≤ end
  block_onward = closed_onward (at + 2) end (ends fresh 0 (drop (at + 2) s)) e.end

  pub block_within : end ≤ length s
  block_within = e.within end refl

module _ (σ : Settings) (s : List ℕ) (at : ℕ) where
  second : next (byte ";") (drop 1 (drop at s)) ≡ next (byte ";") (drop (at + 1) s)
  second = ap (next (byte ";")) (drop-drop 1 at s)

  module _ (n : next (byte ";") (drop (at + 1) s) ≡ false) where
    pub open_alone : lex_by σ open_paren (drop at s) ≡ answer.Token kind.LParen 1
    open_alone = rw (second ∙ n, lex_by)

    pub semi_alone : lex_by σ semi (drop at s) ≡ answer.Token kind.Reserved 1
    semi_alone = rw (second ∙ n, lex_by)

  module _ (n : next (byte ";") (drop (at + 1) s) ≡ true) where
    pub semi_comment :
        {end : ℕ} → Scanned newline false s at end → lex_by σ semi (drop at s) ≡ comment σ kind.LineComment (end - at) (drop at s)
    semi_comment c = rw (second ∙ n, lex_by) (ap (λ (m : ℕ). comment σ kind.LineComment m (drop at s)) (omega (arith, c.end)))

    -- a line up to k, where no 0xE2 stops it
    pub semi_plain :
        {k : ℕ} → WellFormed (drop at s) → Scanned line_stop false s at k → next 0xE2 (drop k s) ≡ false
        → lex_by σ semi (drop at s) ≡ answer.Token kind.LineComment (k - at)
    semi_plain {k} g c q =
        semi_comment (line_ends_lem s at k c (λ h. eqb-false (get_or s k 0) 0xE2 (sym (next_byte 0xE2 s k h) ∙ q)))
        ∙ comment_plain kind.LineComment s at k σ (omega (arith, c.end)) (line_hides_nothing s at k c g)

    block : lex_by σ open_paren (drop at s) ≡ block_by σ (drop at s) (ends fresh 0 (drop (at + 2) s))
    block = rw (second ∙ n, lex_by) (ap (λ (t : List ℕ). block_by σ (drop at s) (ends fresh 0 t)) (drop-drop 2 at s))

    pub block_open : BlockEnd s (at + 2) None → lex_by σ open_paren (drop at s) ≡ answer.Fault (fault DanglingBlockComment 0 0)
    block_open e = block ∙ ap (block_by σ (drop at s)) (block_none s at e)

    pub block_closed :
        {end : ℕ} → BlockEnd s (at + 2) (Some end)
        → lex_by σ open_paren (drop at s) ≡ comment σ kind.BlockComment (end - at) (drop at s)
    block_closed e =
        let l = block_onward s at e in
        block ∙ ap (block_by σ (drop at s)) (block_some s at e)
        ∙ ap (λ (n : ℕ). comment σ kind.BlockComment n (drop at s)) (omega arith)

-- what is answered for all of a comment is the token's
module _ (σ : Settings) (s : List ℕ) (at end : ℕ) (r : Option Step) (b : Bool) where
  pub block_whole :
      r ≡ step_of at (comment σ kind.BlockComment (end - at) (drop at s))
      → BlockEnd s (at + 2) (Some end) → b ≡ next (byte ";") (drop (at + 1) s) → b ≡ true
      → r ≡ step_of at (lex_by σ open_paren (drop at s))
  block_whole f e q n = f ∙ ap (step_of at) (sym (block_closed σ s at (sym q ∙ n) e))

  pub line_whole :
      (j : ℕ) → r ≡ step_of at (comment σ kind.LineComment (end - at) (drop at s))
      → Scanned newline false s j end → Scanned line_stop false s at j → b ≡ next (byte ";") (drop (at + 1) s) → b ≡ true
      → r ≡ step_of at (lex_by σ semi (drop at s))
  line_whole j f p q e n =
      f ∙ ap (step_of at) (sym (semi_comment σ s at (sym e ∙ n) (line_goes_on s at j q end p)))

-- a line that nothing stops but its end
pub line_plain : (σ : Settings) (s : List ℕ) (at j : ℕ) → Scanned line_stop false s at j → next 0xE2 (drop j s) ≡ false
    → next (byte ";") (drop (at + 1) s) ≡ true → WellFormed (drop at s)
    → Some (record { kind = kind.LineComment; end = j }) ≡ step_of at (lex_by σ semi (drop at s))
line_plain σ s at j p q n g = step_token at (semi_plain σ s at n g p q) (omega (arith, p.end))

pub ruleset comments = (comment_on, comment_off)

pub ruleset lines = (semi_alone, line_goes_on, line_plain)

pub ruleset parens = (open_alone, open_within, block_open, block_onward, block_within)
