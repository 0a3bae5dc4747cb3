-- The window: where the answer for the front of a text ends before the front does, and is not 10, it is the answer for
-- the whole text. Assumes nothing.
use Prim.Native.Nat.{ℕ, suc, ◌+◌, ◌<◌}
use mathlib.Core.Path.{◌≡◌, refl, sym, ap, ◌∙◌, subst}
use mathlib.Core.List.{List, [], ◌∷◌, ◌++◌, append_assoc}
use mathlib.Core.Option.{Option, none, some}
use mathlib.Core.Bool.{Bool, true, false}
use native.Mathlib.Omega.{arith}
use lib.Dec.{eqb, ltb}
use lib.ListN.{length, length-append}
use lib.Seq.{take-append-le}
use borrow.Author.Tests.{eqb-true}
use Rattle.std.specs.Prelude.{Result, Ok, Err}
use Rattle.wat.specs.declared.{TokenKind.TokenKind, Fault.Fault, LexError.LexError, Settings.Settings}
use Rattle.wat.specs.Answers.{Answer}
use Rattle.wat.specs.declared.TokenKind.TheVariants as kind
use Rattle.wat.specs.declared.LexError.TheVariants.{DanglingBlockComment, ConfusingUnicode}
use Rattle.wat.specs.Answers as answer
use Rattle.wat.specs.Faults.{fault, shift}
use Rattle.wat.specs.Utf8.{WellFormed, empty, more}
use Rattle.wat.specs.Chars.{space, newline}
use Rattle.wat.specs.StringFaults.{NumberEnds, Bad, BadStr}
use Rattle.wat.specs.Lexing.{Lexed}
use Rattle.wat.specs.StringModel.{nothing, peek}
use Rattle.wat.specs.RunModel.{walk}
use Rattle.wat.specs.CommentModel.{fresh, ends}
use Rattle.wat.specs.declared.Family.{Family}
use Rattle.wat.specs.declared.Family.TheVariants.{OpenParen as open_paren, Semi as semi, Run as run}
use Rattle.wat.specs.declared.Hidden.{Hidden}
use Rattle.wat.specs.declared.Hidden.TheVariants.{Clear as clear, Found as found}
use Rattle.wat.specs.LexModel.{count, hidden, comment_by, comment, block_by, run_by, other_by, lex_by, lex}
use Rattle.wat_laws.specs.Windows.{DecidedAnswer}
use Rattle.wat.proofs.Scalars.{peek_char, peek_nothing}
use Rattle.wat.proofs.Runs.{Stopped, ended, halted, run_stops, run_fails, Walks, is_run, is_bad, walks}
use Rattle.wat.proofs.Blocks.{block_ends, ended as block_ended}
use Rattle.wat.proofs.Families.{Families, is_space, is_open, is_close, is_semi, is_single, is_char, is_quote, is_other, families}
use Rattle.wat.proofs.Boundaries.{token_formed}
use Rattle.wat_laws.proofs.LongestOf.{longest_line_lem, block_at}
use Rattle.wat_laws.proofs.Total.{lexed}
use Rattle.wat_laws.proofs.Answers.{lexed_is}
use Rattle.wat_laws.proofs.CommentWindows.{comment_window}

-- ---- bytes of a class

count_window : (f : ℕ → Bool) (b : Bool) (s r : List ℕ) → count f b s < length s → count f b (s ++ r) ≡ count f b s
unfolding count
count_window f b [] r h = absurd (omega arith)
count_window f true (x ∷ s) r h = go (f x) refl (count_window f true s r)
  where
    go : (c : Bool) → f x ≡ c → (count f true s < length s → count f true (s ++ r) ≡ count f true s)
        → count f true (x ∷ (s ++ r)) ≡ count f true (x ∷ s)
    go true e ih = let k : suc (count f true s) < suc (length s) = rw (e, count) at h in rw (e, count) (ap suc (ih (omega arith)))
    go false e ih = rw (e, count)
count_window f false (x ∷ s) r h = go (f x) refl (count_window f false s r)
  where
    go : (c : Bool) → f x ≡ c → (count f false s < length s → count f false (s ++ r) ≡ count f false s)
        → count f false (x ∷ (s ++ r)) ≡ count f false (x ∷ s)
    go true e ih = rw (e, count)
    go false e ih = let k : suc (count f false s) < suc (length s) = rw (e, count) at h in rw (e, count) (ap suc (ih (omega arith)))

-- ---- runs

stopped_window : {u : List ℕ} (r : List ℕ) → Stopped u → 0 < length u → Stopped (u ++ r)
stopped_window r ended h = absurd (omega arith)
stopped_window r (halted e n) h = halted e n

number_window : {u : List ℕ} (r : List ℕ) → NumberEnds u → 0 < length u → NumberEnds (u ++ r)
number_window r NumberEnds.text h = absurd (omega arith)
number_window r (NumberEnds.other e) h = NumberEnds.other e

bad_window : {σ : Settings} {p c u : List ℕ} {e : LexError} (r : List ℕ) → Bad σ p c u e → 0 < length u → Bad σ p c (u ++ r) e
bad_window r (Bad.other a ch t) h = Bad.other a ch t
bad_window r (Bad.end a) h = absurd (omega arith)
bad_window r (Bad.big k g n f d o) h = Bad.big k g n f d o
bad_window r (Bad.lone k g n f e) h = Bad.lone k g n f (number_window r e h)
bad_window r (Bad.double g n f) h = Bad.double g n f
bad_window r (Bad.value n f i e) h = Bad.value n f i (number_window r e h)
bad_window r (Bad.hidden ch c f) h = Bad.hidden ch c f

string_window : {σ : Settings} {t : List ℕ} {f : Fault} (r : List ℕ) → BadStr σ t f → f.after < length t → BadStr σ (t ++ r) f
string_window {σ} r (BadStr.quoted {b = b} {p = p} {c = c} {u = u} q x) h =
    let some_left : 0 < length u =
    omega (arith, length-append b (p ++ (c ++ u)), length-append p (c ++ u), length-append c u) in
    let seam : 0x22 ∷ (b ++ (p ++ (c ++ (u ++ r)))) ≡ (0x22 ∷ (b ++ (p ++ (c ++ u)))) ++ r = simp append_assoc in
    rw (← seam) (BadStr.quoted q (bad_window r x some_left))

run_window : (σ : Settings) (s r : List ℕ) → WellFormed s → DecidedAnswer s (lex_by σ run s) → lex_by σ run (s ++ r) ≡ lex_by σ run s
run_window σ s r g h = go (walks (suc (length s)) s (omega arith) g) h
  where
    fuel : ℕ
    fuel = suc (length (s ++ r))

    go : {k : Result ℕ Fault} → Walks σ s k → DecidedAnswer s (run_by s k) → run_by (s ++ r) (walk σ fuel (s ++ r)) ≡ run_by s k
    go (is_run {w = w} {n = n} u q x z m) h =
        let l : length s ≡ length w + length u = ap length q ∙ length-append w u in
        let e : walk σ fuel (s ++ r) ≡ Ok (length w) =
        ap (walk σ fuel) (ap (λ (y : List ℕ). y ++ r) q ∙ append_assoc w u r)
        ∙ run_stops fuel x (stopped_window r z (omega arith)) (omega (arith, length-append s r)) in
        rw (e, sym m, take-append-le n s r (omega arith))
    go (is_bad {w = w} {s = t} {x = f} q x z i) h =
        let l : length s ≡ length w + length t = ap length q ∙ length-append w t in
        let k : length w + f.after < length s = rw i at h.0 in
        let e : walk σ fuel (s ++ r) ≡ Err (shift (length w) f) =
        ap (walk σ fuel) (ap (λ (y : List ℕ). y ++ r) q ∙ append_assoc w t r)
        ∙ run_fails fuel x (string_window r z (omega arith)) (omega (arith, length-append s r)) in
        rw (e, i)

-- ---- comments

-- a comment that the front holds ends before the front does
comment_inside : (σ : Settings) (k : TokenKind) (n : ℕ) (s : List ℕ) → DecidedAnswer s (comment σ k n s) → n < length s
unfolding comment
comment_inside σ k n s h = go σ.allow_confusing (hidden (suc (length s)) s) h
  where
    by : (x : Hidden) → DecidedAnswer s (comment_by k n x) → n < length s
    by clear h = h
    by (found p c) h = at (ltb p n) h
      where
        at : (b : Bool)
            → DecidedAnswer s (elim b [ true ↦ answer.Fault (fault (ConfusingUnicode c) p n) | false ↦ answer.Token k n ])
            → n < length s
        at true h = h.0
        at false h = h

    go : (b : Bool) (x : Hidden) → DecidedAnswer s (elim b [ true ↦ answer.Token k n | false ↦ comment_by k n x ]) → n < length s
    go true x h = h
    go false x h = by x h

line_window : (σ : Settings) (t r : List ℕ) → WellFormed (0x3B ∷ 0x3B ∷ t)
    → DecidedAnswer (0x3B ∷ 0x3B ∷ t) (lex_by σ semi (0x3B ∷ 0x3B ∷ t))
    → lex_by σ semi (0x3B ∷ 0x3B ∷ (t ++ r)) ≡ lex_by σ semi (0x3B ∷ 0x3B ∷ t)
line_window σ t r g h =
    let s : List ℕ = 0x3B ∷ 0x3B ∷ t in
    let n = count newline false s in
    let l = longest_line_lem t in
    let e = count_window newline false s r (comment_inside σ kind.LineComment n s h) in
    ap (λ (m : ℕ). comment σ kind.LineComment m (s ++ r)) e
    ∙ comment_window σ kind.LineComment n s r l.fits (token_formed g l).0

semi_window : (σ : Settings) (t r : List ℕ) → WellFormed (0x3B ∷ t) → DecidedAnswer (0x3B ∷ t) (lex_by σ semi (0x3B ∷ t))
    → lex_by σ semi (0x3B ∷ (t ++ r)) ≡ lex_by σ semi (0x3B ∷ t)
semi_window σ [] r g h = absurd (omega arith)
semi_window σ (y ∷ v) r g h = go (eqb y 0x3B) refl
  where
    go : (b : Bool) → eqb y 0x3B ≡ b → lex_by σ semi (0x3B ∷ y ∷ (v ++ r)) ≡ lex_by σ semi (0x3B ∷ y ∷ v)
    go true e = let q = eqb-true y 0x3B e in rw q (line_window σ v r (rw q at g) (rw q at h))
    go false e = rw (e, lex_by)

block_window : (σ : Settings) (v r : List ℕ) → WellFormed (0x28 ∷ 0x3B ∷ v)
    → (o : Option ℕ) → ends fresh 0 v ≡ o → DecidedAnswer (0x28 ∷ 0x3B ∷ v) (block_by σ (0x28 ∷ 0x3B ∷ v) o)
    → block_by σ (0x28 ∷ 0x3B ∷ (v ++ r)) (ends fresh 0 (v ++ r)) ≡ block_by σ (0x28 ∷ 0x3B ∷ v) o
block_window σ v r g none e h = absurd (h.1 refl)
block_window σ v r g (some n) e h =
    let b = block_ended v fresh 0 n e in
    let l = block_at b.part b.rest (ap (λ (z : List ℕ). 0x28 ∷ 0x3B ∷ z) b.seam) b.long b.is in
    let q : ends fresh 0 (v ++ r) ≡ some n =
    ap (λ (z : List ℕ). ends fresh 0 (z ++ r)) b.seam ∙ ap (ends fresh 0) (append_assoc b.part b.rest r)
    ∙ block_ends 0 (b.rest ++ r) b.is ∙ ap some (sym b.long) in
    rw q (comment_window σ kind.BlockComment (2 + n) (0x28 ∷ 0x3B ∷ v) r l.fits (token_formed g l).0)

open_window : (σ : Settings) (t r : List ℕ) → WellFormed (0x28 ∷ t) → DecidedAnswer (0x28 ∷ t) (lex_by σ open_paren (0x28 ∷ t))
    → lex_by σ open_paren (0x28 ∷ (t ++ r)) ≡ lex_by σ open_paren (0x28 ∷ t)
open_window σ [] r g h = absurd (omega arith)
open_window σ (y ∷ v) r g h = go (eqb y 0x3B) refl
  where
    go : (b : Bool) → eqb y 0x3B ≡ b → lex_by σ open_paren (0x28 ∷ y ∷ (v ++ r)) ≡ lex_by σ open_paren (0x28 ∷ y ∷ v)
    go true e = let q = eqb-true y 0x3B e in rw q (block_window σ v r (rw q at g) (ends fresh 0 v) refl (rw q at h))
    go false e = rw (e, lex_by)

-- ---- every rest

other_window : {s : List ℕ} (r : List ℕ) → WellFormed s → DecidedAnswer s (other_by (peek s))
    → other_by (peek (s ++ r)) ≡ other_by (peek s)
other_window r empty h = let k : DecidedAnswer [] (other_by nothing) = rw peek_nothing at h in absurd k
other_window r (more {c = c} {t = u} ch g) h = rw (append_assoc c u r, peek_char c (u ++ r) ch, peek_char c u ch)

lex_window : (σ : Settings) (s r : List ℕ) → WellFormed s → DecidedAnswer s (lex σ s) → lex σ (s ++ r) ≡ lex σ s
unfolding lex
lex_window σ [] r g h = absurd h
lex_window σ (x ∷ t) r g h = by (families x) h
  where
    by : {f : Family} → Families x f → DecidedAnswer (x ∷ t) (lex_by σ f (x ∷ t)) → lex_by σ f (x ∷ (t ++ r)) ≡ lex_by σ f (x ∷ t)
    by (is_space e) h = ap (answer.Token kind.Whitespace) (count_window space true (x ∷ t) r h)
    by (is_open e) h = rw e (open_window σ t r (rw e at g) (rw e at h))
    by (is_close e) h = refl
    by (is_semi e) h = rw e (semi_window σ t r (rw e at g) (rw e at h))
    by (is_single e n) h = refl
    by (is_char e) h = run_window σ (x ∷ t) r g h
    by (is_quote e) h = run_window σ (x ∷ t) r g h
    by (is_other e) h = other_window r g h

-- the answer for the front is that for the text
pub window_lexed : {σ : Settings} {s : List ℕ} {a : Answer} (r : List ℕ) → WellFormed s → WellFormed (s ++ r)
    → Lexed σ s a → DecidedAnswer s a → Lexed σ (s ++ r) a
window_lexed {σ} {s} {a} r g k l h =
    let e = lexed_is g l in
    let i : DecidedAnswer s (lex σ s) = subst (λ (b : Answer). DecidedAnswer s b) e h in
    subst (λ (b : Answer). Lexed σ (s ++ r) b) (lex_window σ s r g i ∙ sym e) (lexed σ k)

pub window_token : {σ : Settings} {s : List ℕ} {k : TokenKind} {n : ℕ} (r : List ℕ) → WellFormed s → WellFormed (s ++ r)
    → Lexed σ s (answer.Token k n) → n < length s → Lexed σ (s ++ r) (answer.Token k n)
window_token r g k l h = window_lexed r g k l h

pub window_fault : {σ : Settings} {s : List ℕ} {f : Fault} (r : List ℕ) → WellFormed s → WellFormed (s ++ r)
    → Lexed σ s (answer.Fault f) → (f.error ≡ DanglingBlockComment → ⊥) → f.after < length s
    → Lexed σ (s ++ r) (answer.Fault f)
window_fault r g k l n h = window_lexed r g k l (h, n)
