-- Where the longest token is not refused: its confusing characters and its faults. Assumes nothing.
use Prim.Native.Nat.{ℕ, zero, suc, ◌+◌, ◌<◌}
use mathlib.Core.Path.{◌≡◌, refl, sym, ap, ◌∙◌, subst}
use mathlib.Core.Logic.{◌⊎◌, ⊎_elim}
use mathlib.Core.List.{List, [], ◌∷◌, ◌++◌, append_assoc}
use mathlib.Core.Bool.{Bool, true, false}
use native.Mathlib.Omega.{arith}
use lib.Dec.{ltb}
use lib.ListN.{length, length-append}
use borrow.Author.Tests.{ltb-true, ltb-false}
use Rattle.wat.specs.declared.Fault.{Fault}
use Rattle.wat.specs.Faults.{fault}
use Rattle.wat.specs.declared.TokenKind.{TokenKind}
use Rattle.wat.specs.declared.LexError.TheVariants.{ConfusingUnicode}
use Rattle.wat.specs.Answers.{Answer}
use Rattle.wat.specs.Answers as answer
use Rattle.wat.specs.Bytes.{bytes}
use Rattle.wat.specs.declared.Settings.{Settings}
use Rattle.wat.specs.Utf8.{Char, scalar, WellFormed, empty, more}
use Rattle.wat.specs.Chars.{confusing, Plain}
use Rattle.wat.specs.Comments.{BlockComment}
use Rattle.wat.specs.Lexing.{Longest, Comment, Fails, Lexed}
use Rattle.wat.specs.StringModel.{char}
use Rattle.wat.specs.declared.Family.{Family}
use Rattle.wat.specs.declared.Hidden.{Hidden}
use Rattle.wat.specs.declared.Family.TheVariants.{OpenParen as open_paren}
use Rattle.wat.specs.declared.Family.TheVariants.{Semi as semi, Run as run, Other as other}
use Rattle.wat.specs.declared.Hidden.TheVariants.{Clear as clear, Found as found}
use Rattle.wat.specs.LexModel.{family, beyond, hidden_by, hidden, comment_by, comment}
use Rattle.wat.proofs.Utf8Rows.{char_full}
use Rattle.wat.proofs.Utf8Laws.{chars_meet}
use Rattle.wat.proofs.Basics.{never}
use Rattle.wat.proofs.Scalars.{peek_char, peek_nothing}
use Rattle.wat.proofs.Unique.{family_other, comment_head, longest_head}
use Rattle.wat.proofs.Unique.{run_bad_head, longest_one, first_one, no_dangling, comment_run}

data Hiddens (s : List ℕ) : Hidden → Type 0 where
  is_clear : Plain s → Hiddens s clear
  is_found : {p c : List ℕ} {n x : ℕ} (t : List ℕ) → s ≡ p ++ (c ++ t) → Plain p → Char c
      → confusing (scalar c) ≡ true → n ≡ length p → x ≡ scalar c → Hiddens s (found n x)

hiddens_next : {c u : List ℕ} {h : Hidden} → Char c → confusing (scalar c) ≡ false → Hiddens u h
    → Hiddens (c ++ u) (beyond (length c) h)
hiddens_next ch e (is_clear p) = is_clear (Plain.next ch e p)
hiddens_next {c} ch e (is_found {p = p} {c = d} {n = n} t q r dh g l m) =
    is_found {n = length c + n} t (ap (λ (z : List ℕ). c ++ z) q ∙ sym (append_assoc c p (d ++ t))) (Plain.next ch e r) dh g
    (omega (arith, length-append c p)) m

pub char_some : (c : List ℕ) → Char c → 0 < length c
char_some [] ch = absurd (char_full ch)
char_some (x ∷ c) ch = omega arith

hiddens : (f : ℕ) {s : List ℕ} → length s < f → WellFormed s → Hiddens s (hidden f s)
unfolding hidden
hiddens zero h w = absurd (omega arith)
hiddens (suc f) h empty = rw peek_nothing (is_clear Plain.none)
hiddens (suc f) h (more {c = c} {t = u} ch w) =
    rw (peek_char c u ch) (go (confusing (scalar c)) refl (hiddens f (let z = char_some c ch in omega (arith, length-append c u)) w))
  where
    go : (b : Bool) → confusing (scalar c) ≡ b → Hiddens u (hidden f u) → Hiddens (c ++ u) (hidden_by (char c u) (λ v. hidden f v))
    go true e i = rw (e, hidden_by) (is_found u refl Plain.none ch e refl refl)
    go false e i = rw (e, hidden_by) (hiddens_next ch e i)

no_hidden : {s p c : List ℕ} (t : List ℕ) → Plain s → Plain p → Char c → confusing (scalar c) ≡ true
    → s ≡ p ++ (c ++ t) → ⊥
no_hidden {c = c} t Plain.none Plain.none ch e q = none_left c ch q
  where
    none_left : (c : List ℕ) → Char c → [] ≡ c ++ t → ⊥
    none_left [] ch q = char_full ch
    none_left (x ∷ c) ch q = let y : ◌≡◌ {A = ℕ} 0 1 = cc in omega arith
no_hidden {c = c} t Plain.none (Plain.next {c = d} {t = u} dh f r) ch e q = none_left d dh q
  where
    none_left : (d : List ℕ) → Char d → [] ≡ (d ++ u) ++ (c ++ t) → ⊥
    none_left [] ch q = char_full ch
    none_left (x ∷ d) ch q = let y : ◌≡◌ {A = ℕ} 0 1 = cc in omega arith
no_hidden {c = c} t (Plain.next {c = d} {t = u} dh f r) Plain.none ch e q = let m = (chars_meet d c u t dh ch q).0 in
    never (rw (← m) at e) f
no_hidden {c = c} t (Plain.next {c = d} {t = u} dh f r) (Plain.next {c = d'} {t = u'} dh' f' r') ch e q =
    no_hidden t r r' ch e (chars_meet d d' u (u' ++ (c ++ t)) dh dh' (q ∙ append_assoc d' u' (c ++ t))).1

-- ---- no fault

-- what is refused where the longest token is a comment
record Confused (σ : Settings) (s : List ℕ) (n : ℕ) : Type 0 where
  before : List ℕ
  at : List ℕ
  rest : List ℕ
  off : σ.allow_confusing ≡ false
  seam : s ≡ before ++ (at ++ rest)
  plain : Plain before
  is : Char at
  confuses : confusing (scalar at) ≡ true
  inside : length before < n

comment_faults : {σ : Settings} {k : TokenKind} {n : ℕ} {s : List ℕ} {f : Fault} (y : ℕ) (v : List ℕ) → s ≡ y ∷ v
    → Comment k → Longest s k n → Fails σ s f → Confused σ s n
comment_faults {σ} {k} {n} {s} y v h c l f = go f refl
  where
    head : (family y ≡ open_paren) ⊎ (family y ≡ semi)
    head = let w = longest_head l h in comment_head y w.0 c l.is w.1

    no : (f : Family) → family y ≡ f → (open_paren ≡ f → ⊥) → (semi ≡ f → ⊥) → ⊥
    no f e a b = ⊎_elim (λ z. a (sym z ∙ e)) (λ z. b (sym z ∙ e)) head

    go : {s' : List ℕ} {f : Fault} → Fails σ s' f → s' ≡ s → Confused σ s n
    go (Fails.dangling {t = t} g) q =
        absurd (no_dangling (sym q) (subst (λ (z : List ℕ). (u v : List ℕ) → z ≡ u ++ v → BlockComment u → ⊥) q g) c l)
    go (Fails.unexpected {x = x} t ch g) q =
        let z : x ≡ y = cc in
        absurd (no other (ap family (sym z) ∙ family_other x g) (λ e. let y : ◌≡◌ {A = ℕ} 0 1 = cc in omega arith)
        (λ e. let y : ◌≡◌ {A = ℕ} 0 1 = cc in omega arith))
    go (Fails.comment {p = p} {c = d} t g c' l' pl ch cf b) q =
        let z = (longest_one (rw q at l') l).1 in
        record { before = p; at = d; rest = t; off = g; seam = sym q; plain = pl; is = ch; confuses = cf; inside = omega arith }
    go (Fails.string r b) q = absurd (comment_run s s (sym q) (sym q) l c r b)

pub comment_lexed : {k : TokenKind} {n : ℕ} (σ : Settings) (s : List ℕ) (y : ℕ) (v : List ℕ) → s ≡ y ∷ v → WellFormed s
    → Comment k → Longest s k n → Lexed σ s (comment σ k n s)
unfolding comment
comment_lexed {k} {n} σ s y v h w c l = go σ.allow_confusing refl
  where
    inner : (off : σ.allow_confusing ≡ false) {x : Hidden} → Hiddens s x → Lexed σ s (comment_by k n x)
    inner off (is_clear p) =
        Lexed.token l (λ e f. let g = comment_faults y v h c l f in no_hidden g.rest p g.plain g.is g.confuses g.seam)
    inner off (is_found {p = p} {c = d} {n = a} {x = x} t q pl ch cf e z) = test (ltb a n) refl
      where
        test : (b : Bool) → ltb a n ≡ b → Lexed σ s (comment_by k n (found a x))
        test true r =
            let u = ltb-true a n r in
            rw (r, comment_by) (rw (e, z)
            (Lexed.fails (subst (λ (s : List ℕ). Fails σ s (fault (ConfusingUnicode (scalar d)) (length p) n)) (sym q)
            (Fails.comment t off c (rw q at l) pl ch cf (omega arith)))))
        test false r =
            rw (r, comment_by) (Lexed.token l (λ e' f.
            let g = comment_faults y v h c l f in
            let i = (first_one t g.rest pl ch cf g.plain g.is g.confuses (sym q ∙ g.seam)).0 in
            let u = ltb-false a n r in
            let j = g.inside in
            omega (arith, ap length i)))

    go : (b : Bool) → σ.allow_confusing ≡ b → Lexed σ s (comment σ k n s)
    go true e =
        let q : comment σ k n s ≡ answer.Token k n = rw (e, comment) in
        subst (λ (a : Answer). Lexed σ s a) (sym q) (Lexed.token l (λ e' f. never e (comment_faults y v h c l f).off))
    go false e =
        let q : comment σ k n s ≡ comment_by k n (hidden (suc (length s)) s) = rw (e, comment) in
        subst (λ (a : Answer). Lexed σ s a) (sym q) (inner e (hiddens (suc (length s)) (omega arith) w))

-- a token that is no comment, where no string is refused
pub other_faults : {σ : Settings} {k : TokenKind} {n : ℕ} {s : List ℕ} {f : Fault} (y : ℕ) (v : List ℕ) → s ≡ y ∷ v
    → (Comment k → ⊥) → Longest s k n
    → (family y ≡ other → ⊥) → (family y ≡ run → ⊥) → ((t : List ℕ) → s ≡ bytes "(;" ++ t → ⊥)
    → Fails σ s f → ⊥
other_faults {σ} {k} {n} {s} y v h c l a b d f = go f refl
  where
    same_comment : {j k : TokenKind} → j ≡ k → Comment j → Comment k
    same_comment e c = rw e at c

    go : {s' : List ℕ} {f : Fault} → Fails σ s' f → s' ≡ s → ⊥
    go (Fails.dangling {t = t} g) q = d t (sym q)
    go (Fails.unexpected {x = x} t ch g) q = let z : x ≡ y = cc in a (ap family (sym z) ∙ family_other x g)
    go (Fails.comment t g c' l' pl ch cf i) q = c (same_comment (longest_one (rw q at l') l).0 c')
    go (Fails.string r x) q = b (run_bad_head y v r x (q ∙ h))
