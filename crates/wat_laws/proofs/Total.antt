-- Each well-formed text has an answer, which the model computes. Assumes nothing.
use Prim.Native.Nat.{ℕ, suc, ◌≤◌}
use mathlib.Core.Path.{◌≡◌, refl, sym, ap, ◌∙◌, subst}
use mathlib.Core.Logic.{◌⊎◌, inl, inr, ⊎_elim}
use mathlib.Core.List.{List, [], ◌∷◌, ◌++◌}
use mathlib.Core.Option.{Option, none, some}
use mathlib.Core.Bool.{Bool, true, false}
use native.Mathlib.Omega.{arith}
use lib.ListN.{length, take, drop, length-append}
use lib.Seq.{take-append_seam}
use borrow.Author.Tests.{eqb-true}
use Rattle.std.specs.Prelude.{Result, Ok, Err}
use Rattle.wat.specs.declared.Fault.{Fault}
use Rattle.wat.specs.Faults.{fault, shift}
use Rattle.wat.specs.declared.TokenKind.TheVariants as kind
use Rattle.wat.specs.declared.LexError.TheVariants.{DanglingBlockComment, Unexpected}
use Rattle.wat.specs.Answers as answer
use Rattle.wat.specs.Bytes.{bytes}
use Rattle.wat.specs.declared.Settings.{Settings}
use Rattle.wat.specs.Utf8.{Char, scalar, WellFormed, empty, more}
use Rattle.wat.specs.Chars.{space, newline, punctuation}
use Rattle.wat.specs.Comments.{LineComment, BlockComment}
use Rattle.wat.specs.Tokens.{Proper, Tok}
use Rattle.wat.specs.Lexing.{Longest, Comment, begins, Fails, Lexed}
use Rattle.wat.specs.StringModel.{char, peek}
use Rattle.wat.specs.RunModel.{walk}
use Rattle.wat.specs.CommentModel.{fresh, ends}
use Rattle.wat.specs.declared.Family.{Family}
use Rattle.wat.specs.declared.Family.TheVariants.{Spaces as spaces, OpenParen as open_paren, CloseParen as close_paren}
use Rattle.wat.specs.declared.Family.TheVariants.{Single as single, Semi as semi, Run as run, Other as other}
use Rattle.wat.specs.LexModel.{family, count, next, kind_of, block_by, run_by, other_by}
use Rattle.wat.specs.LexModel.{lex_by, lex}
use Rattle.wat.proofs.Utf8Rows.{char_full}
use Rattle.wat.proofs.Basics.{never, differ}
use Rattle.wat.proofs.Scalars.{peek_char}
use Rattle.wat.proofs.Runs.{run_fails, Walks, is_run, is_bad, walks}
use Rattle.wat.proofs.Blocks.{block_ends, ended as block_ended}
use Rattle.wat.proofs.Families.{Families, is_space, is_open, is_close, is_semi, is_single, is_char, is_quote, is_other, families}
use Rattle.wat.proofs.Families.{family_space}
use Rattle.wat.proofs.Unique.{semi_mark, family_open, family_close, family_semi, family_other, comment_head, longest_head}
use Rattle.wat_laws.proofs.LongestOf.{longest_one_byte, longest_space, longest_line_lem, block_at, longest_run}
use Rattle.wat_laws.proofs.SettingLaws.{run_lenient}
use Rattle.wat_laws.proofs.NoFault.{comment_lexed, other_faults}

no_comment_lparen : Comment kind.LParen → ⊥
no_comment_lparen c = elim c [ ]

no_comment_rparen : Comment kind.RParen → ⊥
no_comment_rparen c = elim c [ ]

no_comment_space : Comment kind.Whitespace → ⊥
no_comment_space c = elim c [ ]

no_comment_reserved : Comment kind.Reserved → ⊥
no_comment_reserved c = elim c [ ]

apart_family : (x : ℕ) (f g : Family) → family x ≡ f → (f ≡ g → ⊥) → family x ≡ g → ⊥
apart_family x f g e n q = n (sym e ∙ q)

-- each answer of the model, by the family of the first byte
lexed_space : (σ : Settings) (x : ℕ) (t : List ℕ) → space x ≡ true → Lexed σ (x ∷ t) (lex_by σ spaces (x ∷ t))
lexed_space σ x t e =
    let f = family_space x e in
    let l = longest_space x t e in
    Lexed.token l (λ er z. other_faults x t refl no_comment_space l
    (apart_family x spaces other f (λ q. let y : ◌≡◌ {A = ℕ} 0 1 = cc in omega arith))
    (apart_family x spaces run f (λ q. let y : ◌≡◌ {A = ℕ} 0 1 = cc in omega arith))
    (λ u q. let w : x ≡ 0x28 = cc in
    apart_family x spaces open_paren f (λ q. let y : ◌≡◌ {A = ℕ} 0 1 = cc in omega arith) (ap family w ∙ family_open)) z)

lexed_close : (σ : Settings) (t : List ℕ) → Lexed σ (0x29 ∷ t) (lex_by σ close_paren (0x29 ∷ t))
lexed_close σ t =
    let l : Longest (0x29 ∷ t) kind.RParen 1 =
    longest_one_byte 0x29 t close_paren family_close (Tok.proper Proper.rparen) (λ w k u q. omega arith) in
    Lexed.token l (λ er z. other_faults 0x29 t refl no_comment_rparen l
    (apart_family 0x29 close_paren other family_close (λ q. let y : ◌≡◌ {A = ℕ} 0 1 = cc in omega arith))
    (apart_family 0x29 close_paren run family_close (λ q. let y : ◌≡◌ {A = ℕ} 0 1 = cc in omega arith))
    (λ u q. let w : ◌≡◌ {A = ℕ} 0x29 0x28 = cc in omega arith) z)

lexed_single : (σ : Settings) (x : ℕ) (t : List ℕ) → punctuation x ≡ true → family x ≡ single
    → Lexed σ (x ∷ t) (lex_by σ single (x ∷ t))
lexed_single σ x t e f =
    let l : Longest (x ∷ t) kind.Reserved 1 = longest_one_byte x t single f (Tok.single e) (λ w k u q. omega arith) in
    Lexed.token l (λ er z. other_faults x t refl no_comment_reserved l
    (apart_family x single other f (λ q. let y : ◌≡◌ {A = ℕ} 0 1 = cc in omega arith))
    (apart_family x single run f (λ q. let y : ◌≡◌ {A = ℕ} 0 1 = cc in omega arith))
    (λ u q. let w : x ≡ 0x28 = cc in
    apart_family x single open_paren f (λ q. let y : ◌≡◌ {A = ℕ} 0 1 = cc in omega arith) (ap family w ∙ family_open)) z)

next_is : (t : List ℕ) → next 0x3B t ≡ true → (u : List ℕ) × (t ≡ 0x3B ∷ u)
next_is [] e = absurd (never e refl)
next_is (y ∷ t) e = (t, ap (λ (z : ℕ). z ∷ t) (eqb-true y 0x3B e))

next_not : (t u : List ℕ) → next 0x3B t ≡ false → t ≡ 0x3B ∷ u → ⊥
next_not t u e q = never (ap (next 0x3B) q) e

lexed_open : (σ : Settings) (t : List ℕ) → WellFormed (0x28 ∷ t) → Lexed σ (0x28 ∷ t) (lex_by σ open_paren (0x28 ∷ t))
lexed_open σ t w = go (next 0x3B t) refl
  where
    one : next 0x3B t ≡ false → {v : List ℕ} → (v ≡ bytes "(") ⊎ BlockComment v → (u : List ℕ)
        → 0x28 ∷ t ≡ v ++ u → length v ≤ 1
    one n (inl e) u q = omega (arith, ap length e)
    one n (inr (BlockComment.block {u = v} b)) u q = absurd (next_not t (v ++ u) n (cc))

    by_block : (v : List ℕ) → t ≡ 0x3B ∷ v → (o : Option ℕ) → ends fresh 0 v ≡ o
        → Lexed σ (0x28 ∷ t) (block_by σ (0x28 ∷ t) o)
    by_block v q none e =
        subst (λ (z : List ℕ). Lexed σ z (answer.Fault (fault DanglingBlockComment 0 0))) (ap (λ (z : List ℕ). 0x28 ∷ z) (sym q))
        (Lexed.fails (Fails.dangling (λ a b k c. open_no a b k c)))
      where
        open_no : (a b : List ℕ) → bytes "(;" ++ v ≡ a ++ b → BlockComment a → ⊥
        open_no a b k (BlockComment.block {u = u} c) =
            let z : v ≡ u ++ b = cc in
            let y : some (length u) ≡ none = sym (block_ends 0 b c) ∙ ap (ends fresh 0) (sym z) ∙ e in
            let x : ◌≡◌ {A = ℕ} 0 1 = cc in omega arith
    by_block v q (some n) e =
        let g = block_ended v fresh 0 n e in
        let k : 0x28 ∷ t ≡ 0x28 ∷ 0x3B ∷ (g.part ++ g.rest) =
        ap (λ (z : List ℕ). 0x28 ∷ z) (q ∙ ap (λ (z : List ℕ). 0x3B ∷ z) g.seam) in
        comment_lexed σ (0x28 ∷ t) 0x28 t refl w Comment.block (block_at g.part g.rest k g.long g.is)

    go : (b : Bool) → next 0x3B t ≡ b → Lexed σ (0x28 ∷ t) (lex_by σ open_paren (0x28 ∷ t))
    go true e =
        let i = next_is t e in
        let d : drop 1 t ≡ i.0 = ap (drop 1) i.1 in
        rw (e, lex_by) (rw d (by_block i.0 i.1 (ends fresh 0 i.0) refl))
    go false e =
        let l : Longest (0x28 ∷ t) kind.LParen 1 =
        longest_one_byte 0x28 t open_paren family_open (Tok.proper Proper.lparen) (λ w k u q. one e k u q) in
        rw (e, lex_by) (Lexed.token l (λ er z. other_faults 0x28 t refl no_comment_lparen l
        (apart_family 0x28 open_paren other family_open (λ q. let y : ◌≡◌ {A = ℕ} 0 1 = cc in omega arith))
        (apart_family 0x28 open_paren run family_open (λ q. let y : ◌≡◌ {A = ℕ} 0 1 = cc in omega arith))
        (λ u q. next_not t u e (cc)) z))

lexed_semi : (σ : Settings) (t : List ℕ) → WellFormed (0x3B ∷ t) → Lexed σ (0x3B ∷ t) (lex_by σ semi (0x3B ∷ t))
lexed_semi σ t w = go (next 0x3B t) refl
  where
    one : next 0x3B t ≡ false → {v : List ℕ} → (v ≡ bytes ";") ⊎ LineComment v → (u : List ℕ)
        → 0x3B ∷ t ≡ v ++ u → length v ≤ 1
    one n (inl e) u q = omega (arith, ap length e)
    one n (inr (LineComment.line {t = v} b)) u q = absurd (next_not t (v ++ u) n (cc))

    go : (b : Bool) → next 0x3B t ≡ b → Lexed σ (0x3B ∷ t) (lex_by σ semi (0x3B ∷ t))
    go true e =
        let i = next_is t e in
        let l : Longest (0x3B ∷ t) kind.LineComment (count newline false (0x3B ∷ t)) =
        subst (λ (z : List ℕ). Longest (0x3B ∷ z) kind.LineComment (count newline false (0x3B ∷ z))) (sym i.1)
        (longest_line_lem i.0) in
        rw (e, lex_by) (comment_lexed σ (0x3B ∷ t) 0x3B t refl w Comment.line l)
    go false e =
        let l : Longest (0x3B ∷ t) kind.Reserved 1 =
        longest_one_byte 0x3B t semi family_semi (Tok.single semi_mark) (λ w k u q. one e k u q) in
        rw (e, lex_by) (Lexed.token l (λ er z. other_faults 0x3B t refl no_comment_reserved l
        (apart_family 0x3B semi other family_semi (λ q. let y : ◌≡◌ {A = ℕ} 0 1 = cc in omega arith))
        (apart_family 0x3B semi run family_semi (λ q. let y : ◌≡◌ {A = ℕ} 0 1 = cc in omega arith))
        (λ u q. let v : ◌≡◌ {A = ℕ} 0x3B 0x28 = cc in omega arith) z))

-- a run's faults are those of its strings
run_faults : {σ : Settings} {s : List ℕ} {f : Fault} (y : ℕ) (v : List ℕ) (n : ℕ) → s ≡ y ∷ v → family y ≡ run
    → walk σ (suc (length s)) s ≡ Ok n → Fails σ s f → ⊥
run_faults {σ} {s} y v n h r e f = go f refl
  where
    go : {s' : List ℕ} {f : Fault} → Fails σ s' f → s' ≡ s → ⊥
    go (Fails.dangling {t = t} g) q = let z : 0x28 ≡ y = cc in
        apart_family y open_paren run (ap family (sym z) ∙ family_open) (λ q. let y : ◌≡◌ {A = ℕ} 0 1 = cc in omega arith) r
    go (Fails.unexpected {x = x} t ch g) q = let z : x ≡ y = cc in
        apart_family y other run (ap family (sym z) ∙ family_other x g) (λ q. let y : ◌≡◌ {A = ℕ} 0 1 = cc in omega arith) r
    go (Fails.comment t g c l pl ch cf i) q =
        let w = longest_head l (q ∙ h) in
        ⊎_elim (λ z. apart_family y open_paren run z (λ q. let y : ◌≡◌ {A = ℕ} 0 1 = cc in omega arith) r)
        (λ z. apart_family y semi run z (λ q. let y : ◌≡◌ {A = ℕ} 0 1 = cc in omega arith) r)
        (comment_head y w.0 c l.is w.1)
    go (Fails.string {w = w} {t = t} {f = g} x b) q =
        let k : Err (shift (length w) g) ≡ Ok n =
        sym (run_fails (suc (length s)) x b (omega (arith, ap length q, length-append w t))) ∙ ap (walk σ (suc (length s))) q
        ∙ e in
        let y : ◌≡◌ {A = ℕ} 0 1 = cc in omega arith

lexed_run : (σ : Settings) (x : ℕ) (t : List ℕ) → family x ≡ run → WellFormed (x ∷ t)
    → Lexed σ (x ∷ t) (lex_by σ run (x ∷ t))
lexed_run σ x t f w = go (walk σ (suc (length (x ∷ t))) (x ∷ t)) refl (walks (suc (length (x ∷ t))) (x ∷ t) (omega arith) w)
  where
    go : (k : Result ℕ Fault) → walk σ (suc (length (x ∷ t))) (x ∷ t) ≡ k → Walks σ (x ∷ t) k
        → Lexed σ (x ∷ t) (run_by (x ∷ t) k)
    go k e (is_run {w = v} {n = n} u q r z m) =
        let l = longest_run x t u q (run_lenient r) z f in
        let d : take n (x ∷ t) ≡ v = rw (m, q) (take-append_seam v u) in
        let l' : Longest (x ∷ t) (kind_of (take n (x ∷ t))) n = rw (d, m) l in
        Lexed.token l' (λ er y. run_faults x t n refl f e y)
    go k e (is_bad {w = v} {x = y} q r b i) =
        rw i (Lexed.fails (subst (λ (z : List ℕ). Fails σ z (shift (length v) y)) (sym q) (Fails.string r b)))

lexed_other : (σ : Settings) (x : ℕ) (t : List ℕ) → begins x ≡ false → WellFormed (x ∷ t)
    → Lexed σ (x ∷ t) (lex_by σ other (x ∷ t))
lexed_other σ x t e w = go w refl
  where
    at : (c u : List ℕ) → Char c → c ++ u ≡ x ∷ t → Lexed σ (x ∷ t) (other_by (char c u))
    at [] u ch q = absurd (char_full ch)
    at (y ∷ c) u ch q = let z : x ≡ y = cc in
        Lexed.fails (subst (λ (z : List ℕ). Fails σ z (fault (Unexpected (scalar (y ∷ c))) 0 0)) q
        (Fails.unexpected u ch (rw z at e)))

    go : {s : List ℕ} → WellFormed s → s ≡ x ∷ t → Lexed σ (x ∷ t) (other_by (peek (x ∷ t)))
    go empty q = differ (cc)
    go (more {c = c} {t = u} ch g) q =
        rw (← q, peek_char c u ch) (subst (λ (z : List ℕ). Lexed σ z (other_by (char c u))) (sym q) (at c u ch q))

-- the model's answer is the answer
pub lexed : (σ : Settings) {s : List ℕ} → WellFormed s → Lexed σ s (lex σ s)
unfolding lex
lexed σ {s} w = go s w
  where
    by : (x : ℕ) (t : List ℕ) {f : Family} → family x ≡ f → Families x f → WellFormed (x ∷ t)
        → Lexed σ (x ∷ t) (lex_by σ f (x ∷ t))
    by x t e (is_space h) w = lexed_space σ x t h
    by x t e (is_open h) w = rw h (lexed_open σ t (rw h at w))
    by x t e (is_close h) w = rw h (lexed_close σ t)
    by x t e (is_semi h) w = rw h (lexed_semi σ t (rw h at w))
    by x t e (is_single h n) w = lexed_single σ x t h e
    by x t e (is_char h) w = lexed_run σ x t e w
    by x t e (is_quote h) w = lexed_run σ x t e w
    by x t e (is_other h) w = lexed_other σ x t h w

    go : (s : List ℕ) → WellFormed s → Lexed σ s (lex σ s)
    go [] w = Lexed.end refl
    go (x ∷ t) w = by x t refl (families x) w
