-- The answer is the model's; a token lexes alone, and under looser settings; without strict digits every answer but 25 is
-- the same. Assumes nothing.
use Prim.Native.Nat.{ℕ, zero, suc, ◌+◌, ◌<◌}
use mathlib.Core.Path.{◌≡◌, refl, sym, ap, ◌∙◌, subst}
use mathlib.Core.Logic.{◌⊎◌, inl, inr}
use mathlib.Core.List.{List, [], ◌∷◌, ◌++◌, append-nil, append_assoc}
use mathlib.Core.Bool.{true, false}
use native.Mathlib.Omega.{arith}
use lib.ListN.{length, take, drop, take-append-drop}
use lib.Seq.{length-take-le, take-append_seam, take-take, take-nil}
use Rattle.std.specs.Prelude.{Result, Ok, Err}
use Rattle.wat.specs.declared.Fault.{Fault}
use Rattle.wat.specs.Faults.{fault, shift}
use Rattle.wat.specs.declared.TokenKind.{TokenKind}
use Rattle.wat.specs.declared.LexError.TheVariants.{DanglingBlockComment, Unexpected, ConfusingUnicode, DoubleUnderscore}
use Rattle.wat.specs.Answers.{Answer}
use Rattle.wat.specs.Answers as answer
use Rattle.wat.specs.Bytes.{bytes}
use Rattle.wat.specs.declared.Settings.{Settings}
use Rattle.wat.specs.Settings.{lenient}
use Rattle.wat.specs.Utf8.{Char, scalar, WellFormed}
use Rattle.wat.specs.Chars.{confusing, Plain}
use Rattle.wat.specs.StringFaults.{BadStr}
use Rattle.wat.specs.Comments.{BlockComment}
use Rattle.wat.specs.Tokens.{Run, Tok}
use Rattle.wat.specs.Lexing.{Longest, Comment, Fails, Lexed}
use Rattle.wat.specs.RunModel.{walk}
use Rattle.wat.specs.declared.Family.{Family}
use Rattle.wat.specs.declared.Family.TheVariants.{OpenParen as open_paren, Run as run, Other as other}
use Rattle.wat.specs.LexModel.{family, lex}
use Rattle.wat.proofs.Basics.{differ}
use Rattle.wat.proofs.Runs.{Stopped, ended, run_stops, run_fails, Walks, is_run, is_bad, walks}
use Rattle.wat.proofs.Shapes.{tok_shape}
use Rattle.wat.proofs.Unique.{family_open, family_other, run_bad_head, tok_some, longest_one, lexed_one, nil_fault}
use Rattle.wat_laws.proofs.TokenShapes.{Told, told}
use Rattle.wat_laws.specs.Looser.{Looser, unstrict, NotDouble}
use Rattle.wat_laws.proofs.SettingLaws.{looser_lenient, looser_unstrict, looser_off, run_looser, run_lenient, string_unstrict}
use Rattle.wat_laws.proofs.LongestOf.{longest_run}
use Rattle.wat_laws.proofs.Total.{lexed}

-- the answer is what the model computes
pub lexed_is : {σ : Settings} {s : List ℕ} {r : Answer} → WellFormed s → Lexed σ s r → r ≡ lex σ s
lexed_is {σ} w a = lexed_one a (lexed σ w)

-- ---- runs of accepted texts

-- where a token is a run, it is one under the settings, and no run goes on behind it
accepted_run : {σ : Settings} {k : TokenKind} {n : ℕ} (x : ℕ) (t : List ℕ) → family x ≡ run → WellFormed (x ∷ t)
    → Longest (x ∷ t) k n → ((f : Fault) → Fails σ (x ∷ t) f → ⊥)
    → (w : List ℕ) × (u : List ℕ) × (x ∷ t ≡ w ++ u) × Run σ w × Stopped u × (n ≡ length w)
accepted_run {σ} {k} {n} x t f g l nf = go (walks (suc (length (x ∷ t))) (x ∷ t) (omega arith) g)
  where
    go : {y : Result ℕ Fault} → Walks σ (x ∷ t) y
        → (w : List ℕ) × (u : List ℕ) × (x ∷ t ≡ w ++ u) × Run σ w × Stopped u × (n ≡ length w)
    go (is_run {w = w} u q r z m) = (w, u, q, r, z, (longest_one l (longest_run x t u q (run_lenient r) z f)).1)
    go (is_bad {w = w} {x = f} q r z i) =
        absurd (nf (shift (length w) f) (subst (λ (y : List ℕ). Fails σ y (shift (length w) f)) (sym q) (Fails.string r z)))

-- ---- (i) what is accepted is accepted under looser settings, with the same token

pub lexed_looser : {σ τ : Settings} {s : List ℕ} {k : TokenKind} {n : ℕ} → Looser σ τ → WellFormed s
    → Lexed σ s (answer.Token k n) → Lexed τ s (answer.Token k n)
lexed_looser {σ} {τ} {s} {k} {n} o g (Lexed.token l nf) = Lexed.token l (λ e f. go f refl)
  where
    strings : {w t : List ℕ} {er : Fault} (s' : List ℕ) → s' ≡ s → w ++ t ≡ s → Run τ w → BadStr τ t er → ⊥
    strings [] q h r b = nil_fault (Fails.string r b) (h ∙ sym q)
    strings {w} {t} {er} (x ∷ v) q h r b =
        let a =
        accepted_run x v (run_bad_head x v r b (h ∙ sym q)) (rw (sym q) at g) (rw (sym q) at l)
        (λ er f. nf er (subst (λ (z : List ℕ). Fails σ z er) q f)) in
        let f = suc (length a.0 + length w) in
        let y : Ok (length a.0) ≡ Err (shift (length w) er) =
        sym (run_stops f (run_looser o a.3) a.4 (omega arith)) ∙ ap (walk τ f) (sym a.2 ∙ q ∙ sym h)
        ∙ run_fails f r b (omega arith) in
        let z : ◌≡◌ {A = ℕ} 0 1 = cc in omega arith

    go : {s' : List ℕ} {f : Fault} → Fails τ s' f → s' ≡ s → ⊥
    go (Fails.dangling {t = t} h) q =
        nf (fault DanglingBlockComment 0 0) (subst (λ (z : List ℕ). Fails σ z (fault DanglingBlockComment 0 0)) q (Fails.dangling h))
    go (Fails.unexpected {x = x} {c = c} t ch h) q =
        nf (fault (Unexpected (scalar (x ∷ c))) 0 0)
        (subst (λ (z : List ℕ). Fails σ z (fault (Unexpected (scalar (x ∷ c))) 0 0)) q (Fails.unexpected t ch h))
    go (Fails.comment {n = m} {p = p} {c = c} t h k l' pl ch cf i) q =
        let er = fault (ConfusingUnicode (scalar c)) (length p) m in
        nf er (subst (λ (z : List ℕ). Fails σ z er) q (Fails.comment t (looser_off o h) k l' pl ch cf i))
    go (Fails.string r b) q = strings s refl q r b

pub lexed_lenient : {σ : Settings} {s : List ℕ} {k : TokenKind} {n : ℕ} → WellFormed s → Lexed σ s (answer.Token k n)
    → Lexed lenient s (answer.Token k n)
lexed_lenient {σ} g l = lexed_looser (looser_lenient σ) g l

-- strict digits decide one point alone: any answer but 25 is the answer without them
pub fails_unstrict : {σ : Settings} {s : List ℕ} {f : Fault} → Fails σ s f → (f.error ≡ DoubleUnderscore → ⊥)
    → Fails (unstrict σ) s f
fails_unstrict (Fails.dangling h) n = Fails.dangling h
fails_unstrict (Fails.unexpected t ch h) n = Fails.unexpected t ch h
fails_unstrict (Fails.comment t h k l pl ch cf i) n = Fails.comment t h k l pl ch cf i
fails_unstrict {σ} (Fails.string r b) n = Fails.string (run_looser (looser_unstrict σ) r) (string_unstrict σ b n)

pub lexed_unstrict : {σ : Settings} {s : List ℕ} {a : Answer} → WellFormed s → Lexed σ s a → NotDouble a
    → Lexed (unstrict σ) s a
lexed_unstrict g (Lexed.end e) n = Lexed.end e
lexed_unstrict {σ} g (Lexed.token l f) n = lexed_looser (looser_unstrict σ) g (Lexed.token l f)
lexed_unstrict g (Lexed.fails x) n = Lexed.fails (fails_unstrict x n)

-- ---- (j) a token lexes alone

pub lexed_alone : {σ : Settings} {s : List ℕ} {k : TokenKind} {n : ℕ} → WellFormed s → Lexed σ s (answer.Token k n)
    → Lexed σ (take n s) (answer.Token k n)
lexed_alone {σ} {s} {k} {n} g (Lexed.token l nf) = Lexed.token alone (λ e f. go f refl)
  where
    long : length (take n s) ≡ n
    long = length-take-le n s l.fits

    alone : Longest (take n s) k n
    alone = record { fits = omega (arith, long); is = rw (take-take n n s (omega arith)) l.is; most = λ j m h t. omega (arith, long) }

    tells : (x : ℕ) (v : List ℕ) (f : Family) → take n s ≡ x ∷ v → family x ≡ f → Told f (take n s)
    tells x v f q e = subst (λ (g : Family). Told g (take n s)) e (told x v (tok_shape l.is) q)

    opens : {t : List ℕ} → bytes "(;" ++ t ≡ take n s
        → ((u v : List ℕ) → bytes "(;" ++ t ≡ u ++ v → BlockComment u → ⊥)
        → (take n s ≡ bytes "(") ⊎ BlockComment (take n s) → ⊥
    opens q h (inl e) = differ (cc)
    opens q h (inr b) = h (take n s) [] (q ∙ sym (append-nil (take n s))) b

    strings : {w t : List ℕ} {er : Fault} (s' : List ℕ) → s' ≡ s → w ++ t ≡ take n s → Run σ w → BadStr σ t er → ⊥
    strings [] q h r b = nil_fault (Fails.string r b) (h ∙ ap (take n) (sym q) ∙ take-nil n)
    strings {w} {t} {er} (x ∷ v) q h r b =
        let y = heads n l.is in
        let a =
        accepted_run x v (run_bad_head x y.0 r b (h ∙ y.1)) (rw (sym q) at g) (rw (sym q) at l)
        (λ er f. nf er (subst (λ (z : List ℕ). Fails σ z er) q f)) in
        let f = suc (length a.0 + length w) in
        let c : take n s ≡ a.0 =
        ap (take n) (sym q ∙ a.2) ∙ ap (λ (i : ℕ). take i (a.0 ++ a.1)) a.5 ∙ take-append_seam a.0 a.1 in
        let d : a.0 ++ [] ≡ w ++ t = append-nil a.0 ∙ sym c ∙ sym h in
        let k : Ok (length a.0) ≡ Err (shift (length w) er) =
        sym (run_stops f a.3 ended (omega arith)) ∙ ap (walk σ f) d ∙ run_fails f r b (omega arith) in
        let z : ◌≡◌ {A = ℕ} 0 1 = cc in omega arith
      where
        heads : (n : ℕ) → Tok k (take n s) → (u : List ℕ) × (take n s ≡ x ∷ u)
        heads zero t = absurd (tok_some t refl)
        heads (suc i) t = (take i v, ap (take (suc i)) (sym q))

    confused : {j : TokenKind} {i : ℕ} {p c : List ℕ} (t : List ℕ) → σ.allow_confusing ≡ false → Comment j
        → Longest (p ++ (c ++ t)) j i → Plain p → Char c → confusing (scalar c) ≡ true → length p < i
        → p ++ (c ++ t) ≡ take n s → ⊥
    confused {j} {i} {p} {c} t h cm m pl ch cf b q =
        let z = longest_one (rw q at m) alone in
        let e : p ++ (c ++ (t ++ drop n s)) ≡ s =
        simp append_assoc at (ap (λ (y : List ℕ). y ++ drop n s) q) ∙ take-append-drop n s in
        nf (fault (ConfusingUnicode (scalar c)) (length p) n)
        (subst (λ (y : List ℕ). Fails σ y (fault (ConfusingUnicode (scalar c)) (length p) n)) e
        (Fails.comment (t ++ drop n s) h (rw z.0 at cm) (rw e l) pl ch cf (omega arith)))

    go : {s' : List ℕ} {f : Fault} → Fails σ s' f → s' ≡ take n s → ⊥
    go (Fails.dangling {t = t} h) q = opens q h (tells 0x28 (0x3B ∷ t) open_paren (sym q) family_open)
    go (Fails.unexpected {x = x} {c = c} t ch h) q = tells x (c ++ t) other (sym q) (family_other x h)
    go (Fails.comment t h c m pl ch cf b) q = confused t h c m pl ch cf b q
    go (Fails.string r b) q = strings s refl q r b
