-- The calls on a text and a position have one answer each, for every text and position. Assumes nothing.
use Prim.Native.Nat.{ℕ, ◌≤◌}
use mathlib.Core.Path.{◌≡◌, refl, sym, ap, subst, ◌∙◌}
use mathlib.Core.Logic.{◌⊎◌, inl, inr}
use mathlib.Core.List.{List, ◌∷◌, ◌++◌}
use mathlib.Core.Bool.{Bool, true, false}
use native.Mathlib.Omega.{arith}
use lib.Dec.{ltb}
use lib.ListN.{length, take, drop, length-drop, take-append-drop}
use borrow.Author.Tests.{ltb-true, ltb-false}
use Rattle.std.specs.Prelude.{Ok, Err}
use Rattle.wat.specs.declared.Utf8Error.{Utf8Error}
use Rattle.wat.specs.Checked.{Checked, Bad}
use Rattle.wat.specs.declared.Refusal.{Refusal}
use Rattle.wat.specs.declared.Parsed.{Parsed}
use Rattle.wat.specs.Found.{Found}
use Rattle.wat.specs.Answers.{Answer}
use Rattle.wat.specs.declared.Settings.{Settings}
use Rattle.wat.specs.Bytes.{byte}
use Rattle.wat.specs.Utf8.{WellFormed, Says}
use Rattle.wat.specs.Utf8Model.{checked}
use Rattle.wat.specs.Lexing.{Lexed}
use Rattle.wat.specs.LexModel.{lex}
use Rattle.wat.specs.Calls.{most, Text, Stands, Rejected, at, AtSign, Parses, Annotates}
use Rattle.wat.proofs.Utf8Laws.{checked_says, says_one}
use Rattle.wat.proofs.Basics.{differ}
use Rattle.wat.proofs.Boundaries.{cut}
use Rattle.wat.proofs.Unique.{token_same, lexed_one}
use Rattle.wat_laws.proofs.Total.{lexed}

-- ---- refusals 1 to 4

pub not_both : {text : List ℕ} {n e : ℕ} → Says text (Bad n e) → WellFormed text → ⊥
not_both {text} {n} {e} s g = let z = says_one text (Ok tt) (Bad n e) g s in differ (cc)

pub bad_one : {text : List ℕ} {n e n' e' : ℕ} → Says text (Bad n e) → Says text (Bad n' e') → (n ≡ n') × (e ≡ e')
bad_one {text} {n} {e} {n'} {e'} s s' =
    let z = says_one text (Bad n e) (Bad n' e') s s' in
    let d : ◌≡◌ {A = Utf8Error} (record { valid_up_to = n; error_len = e }) (record { valid_up_to = n'; error_len = e' }) = cc in
    (ap (λ (x : Utf8Error). x.valid_up_to) d, ap (λ (x : Utf8Error). x.error_len) d)

pub rejected_one : {text : List ℕ} {pos p p' : ℕ} {r r' : Refusal} → Rejected text pos r p → Rejected text pos r' p'
    → (r ≡ r') × (p ≡ p')
rejected_one (Rejected.too_long h) (Rejected.too_long h') = (refl, refl)
rejected_one (Rejected.too_long h) (Rejected.not_utf8 k s) = absurd (omega arith)
rejected_one (Rejected.too_long h) (Rejected.past_end t k) = absurd (omega (arith, t.short))
rejected_one (Rejected.too_long h) (Rejected.inside t k n) = absurd (omega (arith, t.short))
rejected_one (Rejected.not_utf8 k s) (Rejected.too_long h) = absurd (omega arith)
rejected_one (Rejected.not_utf8 k s) (Rejected.not_utf8 k' s') = let z = bad_one s s' in (cc, z.0)
rejected_one (Rejected.not_utf8 k s) (Rejected.past_end t h) = absurd (not_both s t.formed)
rejected_one (Rejected.not_utf8 k s) (Rejected.inside t h n) = absurd (not_both s t.formed)
rejected_one (Rejected.past_end t k) (Rejected.too_long h) = absurd (omega (arith, t.short))
rejected_one (Rejected.past_end t h) (Rejected.not_utf8 k s) = absurd (not_both s t.formed)
rejected_one (Rejected.past_end t h) (Rejected.past_end t' h') = (refl, refl)
rejected_one (Rejected.past_end t h) (Rejected.inside t' k n) = absurd (omega arith)
rejected_one (Rejected.inside t k n) (Rejected.too_long h) = absurd (omega (arith, t.short))
rejected_one (Rejected.inside t h n) (Rejected.not_utf8 k s) = absurd (not_both s t.formed)
rejected_one (Rejected.inside t k n) (Rejected.past_end t' h) = absurd (omega arith)
rejected_one (Rejected.inside t k n) (Rejected.inside t' k' n') = (refl, refl)

pub stands_or_rejected : {text : List ℕ} {pos p : ℕ} {r : Refusal} → Stands text pos → Rejected text pos r p → ⊥
stands_or_rejected s (Rejected.too_long h) = omega (arith, s.sound.short)
stands_or_rejected s (Rejected.not_utf8 k b) = not_both b s.sound.formed
stands_or_rejected s (Rejected.past_end t h) = omega (arith, s.within)
stands_or_rejected s (Rejected.inside t k n) = n s.between

-- each text and position is one of the two
abbrev pub Entering : List ℕ → ℕ → Type 0
Entering text pos = ((r : Refusal) × (p : ℕ) × Rejected text pos r p) ⊎ Stands text pos

pub entering : (text : List ℕ) (pos : ℕ) → Entering text pos
entering text pos = long (ltb most (length text)) refl
  where
    between : (t : Text text) → pos ≤ length text → (r : Checked) → Says (drop pos text) r → Entering text pos
    between t h (Ok _) s = inr (record { sound = t; within = h; between = s })
    between t h (Err e) s = inl (_, _, Rejected.inside t h (λ w. not_both s w))

    past : (t : Text text) (b : Bool) → ltb (length text) pos ≡ b → Entering text pos
    past t true h = inl (_, _, Rejected.past_end t (ltb-true (length text) pos h))
    past t false h = between t (ltb-false (length text) pos h) (checked (drop pos text)) (checked_says (drop pos text))

    formed : length text ≤ most → (r : Checked) → Says text r → Entering text pos
    formed h (Ok _) s = past (record { short = h; formed = s }) (ltb (length text) pos) refl
    formed h (Err e) s = inl (_, _, Rejected.not_utf8 h s)

    long : (b : Bool) → ltb most (length text) ≡ b → Entering text pos
    long true h = inl (_, _, Rejected.too_long (ltb-true most (length text) h))
    long false h = formed (ltb-false most (length text) h) (checked text) (checked_says text)

-- ---- one token

pub parses_one : {σ : Settings} {text : List ℕ} {pos : ℕ} {a b : Parsed} → Parses σ text pos a → Parses σ text pos b → a ≡ b
parses_one (Parses.rejected t) (Parses.rejected t') = let z = rejected_one t t' in cc
parses_one (Parses.rejected t) (Parses.lexes s l) = absurd (stands_or_rejected s t)
parses_one (Parses.lexes s l) (Parses.rejected t) = absurd (stands_or_rejected s t)
parses_one {pos = pos} (Parses.lexes s l) (Parses.lexes s' l') = ap (at pos) (lexed_one l l')

pub parses : (σ : Settings) (text : List ℕ) (pos : ℕ) → (a : Parsed) × Parses σ text pos a
parses σ text pos = go (entering text pos)
  where
    go : Entering text pos → (a : Parsed) × Parses σ text pos a
    go (inl t) = (_, Parses.rejected t.2)
    go (inr s) = (at pos (lex σ (drop pos text)), Parses.lexes s (lexed σ s.between))

-- same rest, same answer: where what is left of two texts is equal, one answer serves both, counted from each position
pub same_rest : (σ : Settings) {x y : List ℕ} {p q : ℕ} → Stands x p → Stands y q → drop p x ≡ drop q y
    → (a : Answer) × Parses σ x p (at p a) × Parses σ y q (at q a)
same_rest σ {x} {y} {p} {q} s t e =
    let l = lexed σ s.between in
    (lex σ (drop p x), Parses.lexes s l, Parses.lexes t (subst (λ (z : List ℕ). Lexed σ z (lex σ (drop p x))) e l))

-- ---- annotation

-- a position before an ASCII byte stands between two characters
pub sign_stands : (text : List ℕ) (pos : ℕ) → Text text → AtSign text pos → Stands text pos
sign_stands text pos t g =
    let e : text ≡ take pos text ++ (byte "@" ∷ g.0) =
    sym (take-append-drop pos text) ∙ ap (λ (z : List ℕ). take pos text ++ z) g.1 in
    let w : WellFormed (byte "@" ∷ g.0) = (cut t.formed (take pos text) (byte "@") g.0 e (omega arith)).1 in
    record { sound = t; within = omega (arith, length-drop pos text, ap length g.1); between = rw g.1 w }

pub annotates_one : {σ : Settings} {text : List ℕ} {pos : ℕ} {a b : Found} → Annotates σ text pos a
    → Annotates σ text pos b → a ≡ b
annotates_one (Annotates.too_long h) (Annotates.too_long h') = refl
annotates_one (Annotates.too_long h) (Annotates.not_utf8 k s) = absurd (omega arith)
annotates_one (Annotates.too_long h) (Annotates.elsewhere t n) = absurd (omega (arith, t.short))
annotates_one (Annotates.too_long h) (Annotates.hands_out t g l) = absurd (omega (arith, t.short))
annotates_one (Annotates.too_long h) (Annotates.other t g n l) = absurd (omega (arith, t.short))
annotates_one (Annotates.too_long h) (Annotates.fault t g l) = absurd (omega (arith, t.short))
annotates_one (Annotates.not_utf8 k s) (Annotates.too_long h) = absurd (omega arith)
annotates_one (Annotates.not_utf8 k s) (Annotates.not_utf8 k' s') = let z = bad_one s s' in cc
annotates_one (Annotates.not_utf8 k s) (Annotates.elsewhere t n) = absurd (not_both s t.formed)
annotates_one (Annotates.not_utf8 k s) (Annotates.hands_out t g l) = absurd (not_both s t.formed)
annotates_one (Annotates.not_utf8 k s) (Annotates.other t g n l) = absurd (not_both s t.formed)
annotates_one (Annotates.not_utf8 k s) (Annotates.fault t g l) = absurd (not_both s t.formed)
annotates_one (Annotates.elsewhere t n) (Annotates.too_long h) = absurd (omega (arith, t.short))
annotates_one (Annotates.elsewhere t n) (Annotates.not_utf8 k s) = absurd (not_both s t.formed)
annotates_one (Annotates.elsewhere t n) (Annotates.elsewhere t' n') = refl
annotates_one (Annotates.elsewhere t n) (Annotates.hands_out t' g l) = absurd (n g)
annotates_one (Annotates.elsewhere t n) (Annotates.other t' g m l) = absurd (n g)
annotates_one (Annotates.elsewhere t n) (Annotates.fault t' g l) = absurd (n g)
annotates_one (Annotates.hands_out t g l) (Annotates.too_long h) = absurd (omega (arith, t.short))
annotates_one (Annotates.hands_out t g l) (Annotates.not_utf8 k s) = absurd (not_both s t.formed)
annotates_one (Annotates.hands_out t g l) (Annotates.elsewhere t' n) = absurd (n g)
annotates_one (Annotates.hands_out t g l) (Annotates.hands_out t' g' l') = let z = (token_same (lexed_one l l')).1 in cc
annotates_one (Annotates.hands_out t g l) (Annotates.other t' g' n l') = absurd (n (sym (token_same (lexed_one l l')).0))
annotates_one (Annotates.hands_out t g l) (Annotates.fault t' g' l') = let z = lexed_one l l' in differ (cc)
annotates_one (Annotates.other t g n l) (Annotates.too_long h) = absurd (omega (arith, t.short))
annotates_one (Annotates.other t g n l) (Annotates.not_utf8 k s) = absurd (not_both s t.formed)
annotates_one (Annotates.other t g n l) (Annotates.elsewhere t' m) = refl
annotates_one (Annotates.other t g n l) (Annotates.hands_out t' g' l') = absurd (n (token_same (lexed_one l l')).0)
annotates_one (Annotates.other t g n l) (Annotates.other t' g' n' l') = refl
annotates_one (Annotates.other t g n l) (Annotates.fault t' g' l') = let z = lexed_one l l' in differ (cc)
annotates_one (Annotates.fault t g l) (Annotates.too_long h) = absurd (omega (arith, t.short))
annotates_one (Annotates.fault t g l) (Annotates.not_utf8 k s) = absurd (not_both s t.formed)
annotates_one (Annotates.fault t g l) (Annotates.elsewhere t' n) = absurd (n g)
annotates_one (Annotates.fault t g l) (Annotates.hands_out t' g' l') = let z = lexed_one l l' in differ (cc)
annotates_one (Annotates.fault t g l) (Annotates.other t' g' n l') = let z = lexed_one l l' in differ (cc)
annotates_one (Annotates.fault t g l) (Annotates.fault t' g' l') = let z = lexed_one l l' in cc
