-- Folding with strict digits: an answer that is not 25 is the answer without them. Assumes nothing.
use Prim.Native.Nat.{ℕ}
use mathlib.Core.Path.{◌≡◌, refl, sym, ap, ◌∙◌, subst}
use mathlib.Core.Logic.{◌⊎◌, inl, inr}
use mathlib.Core.List.{List, [], ◌∷◌, ◌++◌}
use lib.ListN.{drop}
use Rattle.wat.specs.declared.{Settings.Settings, Fault.Fault, LexError.LexError}
use Rattle.wat.specs.Answers.{Answer}
use Rattle.wat.specs.declared.TokenKind.TheVariants as kind
use Rattle.wat.specs.declared.LexError.TheVariants.{DoubleUnderscore}
use Rattle.wat.specs.declared.Refusal.TheVariants.{Lexical}
use Rattle.wat.specs.Answers as answer
use Rattle.wat.specs.declared.Family.TheVariants.{Run as run}
use Rattle.wat_forms.specs.Folded.{Folded}
use Rattle.wat_forms.specs.Folded as folded
use Rattle.wat.specs.{Bytes.byte, Utf8.WellFormed, Division.Piece}
use Rattle.wat.specs.Lexing.{Fails, Lexed}
use Rattle.wat.specs.LexModel.{family}
use Rattle.wat.proofs.Basics.{differ}
use Rattle.wat.proofs.Unique.{lexed_one, family_open, run_bad_head, nil_fault}
use Rattle.wat_laws.specs.Looser.{unstrict}
use Rattle.wat_laws.proofs.SettingLaws.{looser_unstrict, not_double}
use Rattle.wat_laws.proofs.Total.{lexed}
use Rattle.wat_laws.proofs.Answers.{lexed_looser, fails_unstrict, lexed_unstrict}
use Rattle.wat_laws.proofs.Walks.{walked_looser}
use Rattle.wat_forms.specs.Forms.{Halts, Folds}
use Rattle.wat_forms.proofs.FewBytes.{opens_with}

-- what 25 refuses begins a run
double_run : {σ : Settings} {s : List ℕ} {f : Fault} → Fails σ s f
    → (f.error ≡ DoubleUnderscore → ⊥) ⊎ ((x : ℕ) × (t : List ℕ) × (s ≡ x ∷ t) × (family x ≡ run))
double_run (Fails.dangling h) = inl (λ e. differ (cc))
double_run (Fails.unexpected t ch h) = inl (λ e. differ (cc))
double_run (Fails.comment t a k l p ch e b) = inl (λ e. differ (cc))
double_run (Fails.string {w = w} {t = t} r b) = inr (head (w ++ t) refl)
  where
    head : (l : List ℕ) → w ++ t ≡ l → (x : ℕ) × (u : List ℕ) × (w ++ t ≡ x ∷ u) × (family x ≡ run)
    head [] q = absurd (nil_fault (Fails.string r b) q)
    head (x ∷ u) q = (x, u, q, run_bad_head x u r b q)

-- an opening without strict digits is one with them
opening_strict : (σ : Settings) {s : List ℕ} {n : ℕ} → WellFormed s → Lexed (unstrict σ) s (answer.Token kind.LParen n)
    → Lexed σ s (answer.Token kind.LParen n)
opening_strict σ {s} {n} g l = go (lexed σ g)
  where
    refused : {f : Fault} → Fails σ s f
        → (f.error ≡ DoubleUnderscore → ⊥) ⊎ ((x : ℕ) × (t : List ℕ) × (s ≡ x ∷ t) × (family x ≡ run)) → ⊥
    refused x (inl h) = let z = lexed_one l (Lexed.fails (fails_unstrict x h)) in differ (cc)
    refused x (inr (y, t, e, r)) =
        let o = opens_with l in
        let q : y ≡ byte "(" = cc in
        let z = sym family_open ∙ ap family (sym q) ∙ r in
        differ (cc)

    go : {a : Answer} → Lexed σ s a → Lexed σ s (answer.Token kind.LParen n)
    go (Lexed.end e) = let z = lexed_one l (Lexed.end e) in differ (cc)
    go (Lexed.token m f) =
        let z = lexed_one (lexed_looser (looser_unstrict σ) g (Lexed.token m f)) l in
        subst (λ (a : Answer). Lexed σ s a) z (Lexed.token m f)
    go (Lexed.fails x) = absurd (refused x (double_run x))

halts_unstrict : {σ : Settings} {text : List ℕ} {ts : List Piece} {at : ℕ} {a : Folded} → WellFormed (drop at text)
    → Halts σ text ts at a
    → ((p : ℕ) → a ≡ folded.Refused (Lexical DoubleUnderscore) p → ⊥) → Halts (unstrict σ) text ts at a
halts_unstrict g (Halts.past f) n = Halts.past f
halts_unstrict {at = at} g (Halts.fault {f = f} b l) n =
    Halts.fault b (lexed_unstrict g l (not_double (λ (x : LexError) (p : ℕ). folded.Refused (Lexical x) p) f at n))
halts_unstrict {σ} g (Halts.too_deep b l) n = Halts.too_deep b (lexed_looser (looser_unstrict σ) g l)
halts_unstrict g (Halts.left_open b e) n = Halts.left_open b e

pub folds_unstrict : {σ : Settings} {text : List ℕ} {pos : ℕ} {a : Folded} → Folds σ text pos a
    → ((p : ℕ) → a ≡ folded.Refused (Lexical DoubleUnderscore) p → ⊥) → Folds (unstrict σ) text pos a
folds_unstrict (Folds.rejected t) n = Folds.rejected t
folds_unstrict {σ} (Folds.elsewhere s h) n = Folds.elsewhere s (λ m l. h m (opening_strict σ s.between l))
folds_unstrict {σ} (Folds.walks s w h) n =
    Folds.walks s (walked_looser (looser_unstrict σ) s.between w) (halts_unstrict w.stands.between h n)
