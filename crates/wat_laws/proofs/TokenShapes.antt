-- What a token is, by the family of its first byte, and how far what begins it goes. Assumes nothing.
use Prim.Native.Nat.{ℕ, zero, suc, ◌≤◌}
use mathlib.Core.Path.{◌≡◌, refl, sym, ap, ◌∙◌, subst}
use mathlib.Core.Logic.{◌⊎◌, inl, inr, ⊎_elim}
use mathlib.Core.List.{List, [], ◌∷◌, ◌++◌}
use mathlib.Core.Bool.{Bool, true, false}
use native.Mathlib.Omega.{arith}
use lib.ListN.{length, take}
use Rattle.wat.specs.declared.TokenKind.{TokenKind}
use Rattle.wat.specs.Bytes.{bytes, Each}
use Rattle.wat.specs.Settings.{lenient}
use Rattle.wat.specs.Comments.{Spaces, LineComment, BlockComment}
use Rattle.wat.specs.Tokens.{Run, Tok}
use Rattle.wat.specs.declared.Family.{Family}
use Rattle.wat.specs.declared.Family.TheVariants.{Spaces as spaces, OpenParen as open_paren, CloseParen as close_paren}
use Rattle.wat.specs.declared.Family.TheVariants.{Single as single, Semi as semi, Run as run, Other as other}
use Rattle.wat.specs.LexModel.{family, count}
use Rattle.wat.proofs.Basics.{differ}
use Rattle.wat.proofs.Families.{Families, is_space, is_open, is_close, is_semi, is_single, is_char, is_quote, is_other, families}
use Rattle.wat.proofs.Families.{family_space, family_punctuation}
use Rattle.wat.proofs.Shapes.{Class, Shape, a_line, a_block, a_space, an_open, a_close, a_single}
use Rattle.wat.proofs.Shapes.{a_run, tok_shape}
use Rattle.wat.proofs.OneKind.{run_family}
use Rattle.wat.proofs.Unique.{family_open, family_close, family_semi, tok_some}

abbrev pub Told : Family → List ℕ → Type 0
Told spaces w = Spaces w
Told open_paren w = (w ≡ bytes "(") ⊎ BlockComment w
Told close_paren w = length w ≡ 1
Told semi w = (w ≡ bytes ";") ⊎ LineComment w
Told single w = length w ≡ 1
Told run w = Run lenient w
Told other w = ⊥

told_by : (f : Family) (y : ℕ) (w : List ℕ) → family y ≡ f → Told f w → Told (family y) w
told_by f y w e t = subst (λ (g : Family). Told g w) (sym e) t

pub told : {c : Class} {w : List ℕ} (y : ℕ) (v : List ℕ) → Shape c w → w ≡ y ∷ v → Told (family y) w
told {w = w} y v (a_line (LineComment.line l)) e = let q : 0x3B ≡ y = cc in
    told_by semi y w (ap family (sym q) ∙ family_semi) (inr (LineComment.line l))
told {w = w} y v (a_block (BlockComment.block l)) e = let q : 0x28 ≡ y = cc in
    told_by open_paren y w (ap family (sym q) ∙ family_open) (inr (BlockComment.block l))
told {w = w} y v (a_space (Spaces.spaces {x = x} p l)) e = let q : x ≡ y = cc in
    told_by spaces y w (ap family (sym q) ∙ family_space x p) (Spaces.spaces p l)
told {w = w} y v an_open e = let q : 0x28 ≡ y = cc in told_by open_paren y w (ap family (sym q) ∙ family_open) (inl refl)
told {w = w} y v a_close e = let q : 0x29 ≡ y = cc in told_by close_paren y w (ap family (sym q) ∙ family_close) refl
told {w = w} y v (a_single {x = x} p) e =
    let q : x ≡ y = cc in
    ⊎_elim (λ s. told_by single y w (ap family (sym q) ∙ s) refl)
    (λ s. told_by semi y w (ap family (sym q) ∙ s) (inl (alone (families x) s))) (family_punctuation x p)
  where
    alone : {f : Family} → Families x f → f ≡ semi → x ∷ [] ≡ bytes ";"
    alone (is_space h) s = differ (cc)
    alone (is_open h) s = differ (cc)
    alone (is_close h) s = differ (cc)
    alone (is_semi h) s = ap (λ (z : ℕ). z ∷ []) h
    alone (is_single h n) s = differ (cc)
    alone (is_char h) s = differ (cc)
    alone (is_quote h) s = differ (cc)
    alone (is_other h) s = differ (cc)
told {w = w} y v (a_run {x = x} r) e = let q : x ≡ y = cc in told_by run y w (ap family (sym q) ∙ run_family r) r

-- a start of x ∷ t that is a token
pub start : {j : TokenKind} (x : ℕ) (t : List ℕ) (f : Family) (m : ℕ) → family x ≡ f → Tok j (take m (x ∷ t))
    → Told f (take m (x ∷ t))
start x t f zero e k = absurd (tok_some k refl)
start x t f (suc m) e k = subst (λ (g : Family). Told g (x ∷ take m t)) e (told x (take m t) (tok_shape k) refl)

-- ---- counting

pub count_take : (f : ℕ → Bool) (b : Bool) (s : List ℕ) → Each f b (take (count f b s) s) × (count f b s ≤ length s)
unfolding count
count_take f true [] = (Each.none, omega arith)
count_take f false [] = (Each.none, omega arith)
count_take f true (x ∷ s) = go (f x) refl (count_take f true s)
  where
    go : (c : Bool) → f x ≡ c → Each f true (take (count f true s) s) × (count f true s ≤ length s)
        → Each f true (take (count f true (x ∷ s)) (x ∷ s)) × (count f true (x ∷ s) ≤ length (x ∷ s))
    go true e h = rw (e, count) (Each.next e h.0, omega (arith, h.1))
    go false e h = rw (e, count) (Each.none, omega arith)
count_take f false (x ∷ s) = go (f x) refl (count_take f false s)
  where
    go : (c : Bool) → f x ≡ c → Each f false (take (count f false s) s) × (count f false s ≤ length s)
        → Each f false (take (count f false (x ∷ s)) (x ∷ s)) × (count f false (x ∷ s) ≤ length (x ∷ s))
    go true e h = rw (e, count) (Each.none, omega arith)
    go false e h = rw (e, count) (Each.next e h.0, omega (arith, h.1))

pub count_prefix : (f : ℕ → Bool) (b : Bool) {w : List ℕ} (u : List ℕ) → Each f b w → length w ≤ count f b (w ++ u)
unfolding count
count_prefix f b u Each.none = omega arith
count_prefix f b u (Each.next {x = x} {t = t} e p) = go b e (count_prefix f b u p)
  where
    go : (b : Bool) → f x ≡ b → length t ≤ count f b (t ++ u) → suc (length t) ≤ count f b (x ∷ (t ++ u))
    go true e i = rw (e, count) (omega arith)
    go false e i = rw (e, count) (omega arith)
