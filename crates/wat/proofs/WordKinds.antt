-- Words and whole strings, as the model takes them apart. Assumes nothing.
use Prim.Native.Nat.{ℕ, suc, ◌+◌}
use mathlib.Core.Path.{◌≡◌, refl, sym, ap, ◌∙◌, subst}
use mathlib.Core.List.{List, [], ◌∷◌, ◌++◌, append-nil, append_assoc}
use mathlib.Core.Bool.{Bool, true, false}
use native.Mathlib.Omega.{arith}
use lib.Dec.{eqb}
use lib.ListN.{length, length-append}
use borrow.Author.Tests.{eq-eqb, ne_eqb, eqb-true}
use Rattle.wat.specs.Bytes.{Each}
use Rattle.wat.specs.Settings.{lenient}
use Rattle.wat.specs.Chars.{idchar}
use Rattle.wat.specs.Strings.{Str}
use Rattle.wat.specs.Tokens.{Run}
use Rattle.wat.specs.RunModel.{closed, body}
use Rattle.wat.specs.LexModel.{count, word, closed_at, whole}
use Rattle.wat.proofs.Basics.{never}
use Rattle.wat.proofs.StringRests.{str_body}
use Rattle.wat.proofs.Runs.{quote_no_idchar}

counted : {f : ℕ → Bool} {s : List ℕ} → Each f true s → count f true s ≡ length s
unfolding count
counted Each.none = refl
counted (Each.next e p) = rw (e, count) (ap suc (counted p))

pub word_yes : {s : List ℕ} → Each idchar true s → word s ≡ true
unfolding word
word_yes {s} p = eq-eqb (count idchar true s) (length s) (counted p)

each_of : (f : ℕ → Bool) (s : List ℕ) → count f true s ≡ length s → Each f true s
unfolding count
each_of f [] e = Each.none
each_of f (x ∷ s) e = go (f x) refl (each_of f s)
  where
    go : (b : Bool) → f x ≡ b → (count f true s ≡ length s → Each f true s) → Each f true (x ∷ s)
    go true p ih = Each.next p (ih (let q : suc (count f true s) ≡ suc (length s) = rw (p, count) at e in omega arith))
    go false p ih = absurd (let q : 0 ≡ suc (length s) = rw (p, count) at e in omega arith)

pub word_is : (s : List ℕ) → word s ≡ true → Each idchar true s
unfolding word
word_is s e = each_of idchar s (eqb-true (count idchar true s) (length s) e)

pub word_quote : (t : List ℕ) → word (0x22 ∷ t) ≡ false
unfolding word count
word_quote t =
    ne_eqb (count idchar true (0x22 ∷ t)) (suc (length t))
    (λ e. let q : 0 ≡ suc (length t) = rw (quote_no_idchar, count) at e in omega arith)

pub word_later : (x : ℕ) (t : List ℕ) → idchar x ≡ true → word (x ∷ 0x22 ∷ t) ≡ false
unfolding word count
word_later x t p =
    ne_eqb (count idchar true (x ∷ 0x22 ∷ t)) (suc (suc (length t))) (λ e.
    let q : suc (count idchar true (0x22 ∷ t)) ≡ suc (suc (length t)) = rw (p, count) at e in
    let r : count idchar true (0x22 ∷ t) ≡ 0 = rw (quote_no_idchar, count) in omega arith)

-- ---- whole strings

pub whole_yes : {s v : List ℕ} → Str lenient s v → whole s ≡ true
unfolding whole
whole_yes (Str.quoted {s = s} r) =
    rw (str_body {σ = lenient} [] (suc (length (s ++ (0x22 ∷ [])))) r
    (omega (arith, length-append s (0x22 ∷ [])))) (eq-eqb (length s + 1)
    (length (s ++ (0x22 ∷ []))) (omega (arith, length-append s (0x22 ∷ []))))

pub whole_other : (x : ℕ) (t : List ℕ) → (x ≡ 0x22 → ⊥) → whole (x ∷ t) ≡ false
unfolding whole
whole_other x t n = rw (ne_eqb x 0x22 n, whole)

nil_of : (t : List ℕ) → length t ≡ 0 → t ≡ []
nil_of [] e = refl
nil_of (x ∷ t) e = absurd (omega arith)

-- a string with more behind it is no string
pub whole_alone : {q v : List ℕ} (r : List ℕ) → Str lenient q v → whole (q ++ r) ≡ true → r ≡ []
unfolding whole
whole_alone r (Str.quoted {s = s} {v = v} q) e =
    let a : (s ++ (0x22 ∷ [])) ++ r ≡ s ++ (0x22 ∷ r) = append_assoc s (0x22 ∷ []) r in
    let f = suc (length (s ++ (0x22 ∷ r))) in
    let b : body lenient f (s ++ (0x22 ∷ r)) ≡ closed (length s + 1) v = str_body r f q (omega (arith, length-append s (0x22 ∷ r))) in
    let c : closed_at (length (s ++ (0x22 ∷ r))) (body lenient f (s ++ (0x22 ∷ r))) ≡ true = rw a at e in
    let d : eqb (length s + 1) (length (s ++ (0x22 ∷ r))) ≡ true = rw b at c in
    let k = eqb-true (length s + 1) (length (s ++ (0x22 ∷ r))) d in
    nil_of r (omega (arith, length-append s (0x22 ∷ r)))

pub whole_is : {w : List ℕ} → Run lenient w → whole w ≡ true → (v : List ℕ) × Str lenient w v
unfolding whole
whole_is Run.none e = absurd (never e refl)
whole_is (Run.char {x = x} {t = t} p r) e = absurd (never e (whole_other x t (λ q. never (rw q at p) quote_no_idchar)))
whole_is (Run.string {s = s} {v = v} {t = t} q r) e =
    (v, subst (λ (z : List ℕ). Str lenient z v) (sym (append-nil s) ∙ ap (λ (z : List ℕ). s ++ z) (sym (whole_alone t q e))) q)
