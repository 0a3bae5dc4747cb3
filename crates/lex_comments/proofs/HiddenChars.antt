-- Hidden characters: each begins with the byte 0xE2, which in a well-formed text stands at the start of a character.
-- Assumes nothing.
use Prim.Native.Nat.{ℕ, zero, suc, ◌+◌, ◌<◌}
use mathlib.Core.Path.{◌≡◌, refl, sym, ap, ◌∙◌}
use mathlib.Core.Bool.{Bool, true, false, or_self}
use mathlib.Core.List.{List, [], ◌∷◌, ◌++◌}
use native.Mathlib.Omega.{arith}
use native.Mathlib.Nat.{add_assoc, zero-add}
use lib.Dec.{leb, eqb}
use lib.ListN.{length, get_or, take, length-append}
use lib.Seq.{take_at, get_or-take}
use borrow.Author.Tests.{leb-true, eqb-true, eqb-false, ne_eqb}
use Rattle.wat.specs.Bytes.{Each, none, next}
use Rattle.wat.specs.Utf8.{Range, ◌‥◌, table, Fits, Char, scalar, WellFormed, empty, more}
use Rattle.wat.specs.Utf8Model.{pick}
use Rattle.wat.specs.Chars.{confusing}
use Rattle.wat.specs.StringModel.{char}
use Rattle.wat.specs.declared.Hidden.{Hidden}
use Rattle.wat.specs.declared.Hidden.TheVariants.{Clear as clear, Found as found}
use Rattle.wat.specs.LexModel.{beyond, hidden_by, hidden}
use Rattle.wat.proofs.Utf8Rows.{pick_both, char_full, char_known, fits_length}
use Rattle.wat.proofs.Basics.{never}
use Rattle.wat.proofs.ScalarValues.{All, all_listed}
use Rattle.wat.proofs.Scalars.{peek_char, peek_nothing}
use Rattle.lex_classes.specs.Ask.{confusing_bytes}
use Rattle.lex_classes.proofs.ConfusingLaws.{unconfusing, unled, spread, confusing_told}
use Rattle.lex_comments.specs.Confusing.{lead}
use Rattle.lex_comments.proofs.FindLaws.{among_or}

lead_eqb : (x : ℕ) → lead x ≡ eqb 0xE2 x
lead_eqb x = among_or 0xE2 0xE2 x ∙ or_self (eqb 0xE2 x)

pub lead_is : (x : ℕ) → lead x ≡ true → x ≡ 0xE2
lead_is x e = sym (eqb-true 0xE2 x (sym (lead_eqb x) ∙ e))

pub lead_not : (x : ℕ) → lead x ≡ false → x ≡ 0xE2 → ⊥
lead_not x e q = eqb-false 0xE2 x (sym (lead_eqb x) ∙ e) (sym q)

pub not_lead : (x : ℕ) → (x ≡ 0xE2 → ⊥) → lead x ≡ false
not_lead x n = lead_eqb x ∙ ne_eqb 0xE2 x (λ q. n (sym q))

-- ---- the bytes of a character

-- no range after the first reaches 0xE2
abbrev low : List Range → Bool
low [] = true
low (lo ‥ hi ∷ rs) = pick (leb hi 0xBF) (low rs) false

abbrev low_tail : List Range → Bool
low_tail [] = true
low_tail (r ∷ rs) = low rs

table_low : All (λ row. low_tail row ≡ true) table
unfolding table
table_low = (refl, (refl, (refl, (refl, (refl, (refl, (refl, (refl, (refl, tt)))))))))

fits_low : {rs : List Range} {c : List ℕ} → Fits rs c → low rs ≡ true → Each lead false c
fits_low Fits.done e = none
fits_low (Fits.next {hi = hi} {b = b} h k f) e =
    let p = pick_both (leb hi 0xBF) _ e in
    let q = leb-true hi 0xBF p.0 in
    next (not_lead b (λ z. omega arith)) (fits_low f p.1)

pub char_tail_low : {x : ℕ} {c : List ℕ} → Char (x ∷ c) → Each lead false c
char_tail_low {x} {c} ch = go ch.fits (all_listed (λ row. low_tail row ≡ true) table table_low ch.listed)
  where
    go : {row : List Range} → Fits row (x ∷ c) → low_tail row ≡ true → Each lead false c
    go (Fits.next h k f) e = fits_low f e

-- 0xE2 is the first of three bytes
pub char_led : {c : List ℕ} → Char (0xE2 ∷ c) → length c ≡ 2
unfolding table
char_led {c} ch = fits_length (char_known 0xE2 c (0x80 ‥ 0xBF ∷ 0x80 ‥ 0xBF ∷ []) refl ch)

pub led_front : (x : ℕ) (c u : List ℕ) → Char (x ∷ c) → x ≡ 0xE2 → take 3 (x ∷ (c ++ u)) ≡ x ∷ c
led_front x c u ch e = let f : length c ≡ 2 = char_led (rw e at ch) in take_at (x ∷ c) u 3 (omega arith)

-- ---- the bytes of the nine

char_unled : {x : ℕ} {c : List ℕ} → Char (x ∷ c) → (x ≡ 0xE2 → ⊥) → confusing (scalar (x ∷ c)) ≡ false
char_unled {x} {c} ch n = unconfusing (x ∷ c) ch (unled x (get_or c 0 0) (get_or c 1 0) n)

pub unled_hides : (b c d : ℕ) → lead b ≡ false → confusing_bytes b c d ≡ false
unled_hides b c d e = unled b c d (lead_not b e)

pub hides_led : (b c d : ℕ) → confusing_bytes b c d ≡ true → lead b ≡ true
hides_led b c d h = go (lead b) refl
  where
    go : (x : Bool) → lead b ≡ x → lead b ≡ true
    go true e = e
    go false e = absurd (never h (unled_hides b c d e))

-- a character of which the bytes say that it is none of them
pub led_plain : (t : List ℕ) → Char (0xE2 ∷ take 2 t) → confusing_bytes 0xE2 (get_or t 0 0) (get_or t 1 0) ≡ false
    → confusing (scalar (0xE2 ∷ take 2 t)) ≡ false
led_plain t ch h =
    let c = get_or-take 2 t 0 0 (omega arith) in
    let d = get_or-take 2 t 1 0 (omega arith) in unconfusing (0xE2 ∷ take 2 t) ch (rw (c, d) h)

-- and one of which they say that it is
pub led_confusing : (t : List ℕ) → confusing_bytes 0xE2 (get_or t 0 0) (get_or t 1 0) ≡ true
    → confusing (scalar (0xE2 ∷ take 2 t)) ≡ true
led_confusing [] e = let w = spread 0xE2 0 0 e in absurd (omega (arith, w.2))
led_confusing (x ∷ []) e = let w = spread 0xE2 x 0 e in absurd (omega (arith, w.2))
led_confusing (x ∷ y ∷ t) e = confusing_told x y e

-- ---- looking at the bytes 0xE2 alone

unfoldable pub glance : List ℕ → Hidden
glance [] = clear
glance (x ∷ t) =
    elim (lead x) [
      | true ↦ elim (confusing (scalar (take 3 (x ∷ t))))
          [ true ↦ found 0 (scalar (take 3 (x ∷ t))) | false ↦ beyond 1 (glance t) ]
      | false ↦ beyond 1 (glance t)
    ]

beyond_none : (h : Hidden) → beyond 0 h ≡ h
beyond_none clear = refl
beyond_none (found p c) = ap (λ (n : ℕ). found n c) (zero-add p)

beyond_beyond : (n m : ℕ) (h : Hidden) → beyond n (beyond m h) ≡ beyond (n + m) h
beyond_beyond n m clear = refl
beyond_beyond n m (found p c) = ap (λ (k : ℕ). found k c) (sym (add_assoc n m p))

pub glance_next : (x : ℕ) (t : List ℕ) → lead x ≡ false → glance (x ∷ t) ≡ beyond 1 (glance t)
unfolding glance
glance_next x t e = rw (e, glance)

pub glance_led : (x : ℕ) (t : List ℕ) → lead x ≡ true → confusing (scalar (take 3 (x ∷ t))) ≡ true
    → glance (x ∷ t) ≡ found 0 (scalar (take 3 (x ∷ t)))
unfolding glance
glance_led x t e f = rw (e, f, glance)

pub glance_plain : (x : ℕ) (t : List ℕ) → confusing (scalar (take 3 (x ∷ t))) ≡ false → glance (x ∷ t) ≡ beyond 1 (glance t)
unfolding glance
glance_plain x t f = go (lead x) refl
  where
    go : (b : Bool) → lead x ≡ b → glance (x ∷ t) ≡ beyond 1 (glance t)
    go true e = rw (e, f, glance)
    go false e = rw (e, glance)

glance_each : {w : List ℕ} (u : List ℕ) → Each lead false w → glance (w ++ u) ≡ beyond (length w) (glance u)
glance_each u none = sym (beyond_none (glance u))
glance_each u (next {x = x} {t = w} e r) =
    glance_next x (w ++ u) e ∙ ap (beyond 1) (glance_each u r) ∙ beyond_beyond 1 (length w) (glance u)
    ∙ ap (λ (n : ℕ). beyond n (glance u)) (omega arith)

-- a character that is not confusing is passed
glance_past : (x : ℕ) (c u : List ℕ) → Char (x ∷ c) → glance (x ∷ (c ++ u)) ≡ beyond 1 (glance (c ++ u))
    → glance (x ∷ (c ++ u)) ≡ beyond (suc (length c)) (glance u)
glance_past x c u ch e =
    e ∙ ap (beyond 1) (glance_each u (char_tail_low ch)) ∙ beyond_beyond 1 (length c) (glance u)
    ∙ ap (λ (n : ℕ). beyond n (glance u)) (omega arith)

glance_char : (x : ℕ) (c u : List ℕ) → Char (x ∷ c) → (b : Bool) → confusing (scalar (x ∷ c)) ≡ b
    → glance (x ∷ (c ++ u)) ≡ elim b [ true ↦ found 0 (scalar (x ∷ c)) | false ↦ beyond (suc (length c)) (glance u) ]
glance_char x c u ch b e = go (lead x) refl b e
  where
    three : lead x ≡ true → take 3 (x ∷ (c ++ u)) ≡ x ∷ c
    three l = led_front x c u ch (lead_is x l)

    go : (a : Bool) → lead x ≡ a → (b : Bool) → confusing (scalar (x ∷ c)) ≡ b
        → glance (x ∷ (c ++ u)) ≡ elim b [ true ↦ found 0 (scalar (x ∷ c)) | false ↦ beyond (suc (length c)) (glance u) ]
    go true l true e = let q = three l in glance_led x (c ++ u) l (rw q e) ∙ rw q
    go true l false e = let q = three l in glance_past x c u ch (glance_plain x (c ++ u) (rw q e))
    go false l true e = absurd (never e (char_unled ch (lead_not x l)))
    go false l false e = glance_past x c u ch (glance_next x (c ++ u) l)

pub glanced : {t : List ℕ} (f : ℕ) → length t < f → WellFormed t → hidden f t ≡ glance t
unfolding hidden glance
glanced zero h w = absurd (omega arith)
glanced (suc f) h empty = rw peek_nothing
glanced (suc f) h (more {c = []} ch w) = absurd (char_full ch)
glanced (suc f) h (more {c = x ∷ c} {t = u} ch w) =
    rw (peek_char (x ∷ c) u ch) (go (confusing (scalar (x ∷ c))) refl (glanced f (omega (arith, length-append c u)) w))
  where
    go : (b : Bool) → confusing (scalar (x ∷ c)) ≡ b → hidden f u ≡ glance u
        → hidden_by (char (x ∷ c) u) (λ v. hidden f v) ≡ glance (x ∷ (c ++ u))
    go true e i = rw (e, hidden_by) (sym (glance_char x c u ch true e))
    go false e i = rw (e, hidden_by) (ap (beyond (suc (length c))) i ∙ sym (glance_char x c u ch false e))
