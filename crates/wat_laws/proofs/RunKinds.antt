-- The kind of a run by its parts: idchars alone; idchars and one string; more. For the code, which passes the parts
-- one after the other. Assumes nothing.
use Prim.Native.Nat.{ℕ, suc}
use mathlib.Core.Path.{◌≡◌, refl, ap, ◌∙◌}
use mathlib.Core.Bool.{Bool, true, false}
use mathlib.Core.List.{List, [], ◌∷◌, ◌++◌}
use native.Mathlib.Omega.{arith}
use lib.Dec.{eqb}
use lib.ListN.{length, length-append}
use borrow.Author.Tests.{ne_eqb}
use Rattle.wat.specs.declared.TokenKind.{TokenKind}
use Rattle.wat.specs.declared.TokenKind.TheVariants as kind
use Rattle.wat.specs.Bytes.{byte, Each}
use Rattle.wat.specs.Settings.{lenient}
use Rattle.wat.specs.Chars.{idchar}
use Rattle.wat.specs.Strings.{Str}
use Rattle.wat.specs.Tokens.{Proper, Tok}
use Rattle.wat.specs.LexModel.{count, word, whole, quoted_kind, kind_of}
use Rattle.wat.proofs.Runs.{quote_no_idchar}
use Rattle.wat.proofs.Basics.{never}
use Rattle.wat.proofs.Families.{family_idchar, family_quote}
use Rattle.wat.proofs.WordKinds.{whole_yes, whole_other, whole_alone}
use Rattle.wat.proofs.OneKind.{kind_quoted, tok_kind}

-- the kind of idchars and one string
abbrev pub quoted_by : List ℕ → TokenKind
quoted_by [] = kind.String
quoted_by (x ∷ []) =
    elim (eqb x (byte "$")) [ true ↦ kind.Id | false ↦ elim (eqb x (byte "@")) [ true ↦ kind.Annotation | false ↦ kind.Reserved ] ]
quoted_by (x ∷ y ∷ u) = kind.Reserved

-- a quotation mark ends a word
count_ends : {u : List ℕ} (t : List ℕ) → Each idchar true u → count idchar true (u ++ (0x22 ∷ t)) ≡ length u
unfolding count
count_ends t Each.none = rw (quote_no_idchar, count)
count_ends t (Each.next e p) = rw (e, count) (ap suc (count_ends t p))

word_ends : {u : List ℕ} (t : List ℕ) → Each idchar true u → word (u ++ (0x22 ∷ t)) ≡ false
unfolding word
word_ends {u} t p =
    ne_eqb (count idchar true (u ++ (0x22 ∷ t))) (length (u ++ (0x22 ∷ t)))
    (λ (e : count idchar true (u ++ (0x22 ∷ t)) ≡ length (u ++ (0x22 ∷ t))).
    omega (arith, count_ends t p, length-append u (0x22 ∷ t)))

idchar_no_quote : (x : ℕ) (t : List ℕ) → idchar x ≡ true → whole (x ∷ t) ≡ false
idchar_no_quote x t e = whole_other x t (λ (p : x ≡ 0x22). never (rw p at e) quote_no_idchar)

-- a string with more behind it is no string
whole_joined : {q v : List ℕ} (r : List ℕ) → Str lenient q v → (r ≡ [] → ⊥) → whole (q ++ r) ≡ false
whole_joined {q} r s n = go (whole (q ++ r)) refl
  where
    go : (b : Bool) → whole (q ++ r) ≡ b → whole (q ++ r) ≡ false
    go true e = absurd (n (whole_alone r s e))
    go false e = e

module _ (x y : ℕ) (u t : List ℕ) (p : Each idchar true (x ∷ y ∷ u)) where
  -- idchars, at least two, and a string are Reserved whatever follows
  kind_two : kind_of (x ∷ y ∷ (u ++ (0x22 ∷ t))) ≡ kind.Reserved
  unfolding quoted_kind
  kind_two = go p
    where
      go : Each idchar true (x ∷ y ∷ u) → kind_of (x ∷ y ∷ (u ++ (0x22 ∷ t))) ≡ kind.Reserved
      go (Each.next e (Each.next f r)) =
          kind_quoted x (y ∷ (u ++ (0x22 ∷ t))) (family_idchar x e) (word_ends t p)
          ∙ rw (idchar_no_quote x (y ∷ (u ++ (0x22 ∷ t))) e, idchar_no_quote y (u ++ (0x22 ∷ t)) f, quoted_kind)

-- idchars and one string
pub kind_one_string : {u q v : List ℕ} → Each idchar true u → Str lenient q v → kind_of (u ++ q) ≡ quoted_by u
unfolding quoted_kind
kind_one_string Each.none s = tok_kind (Tok.proper (Proper.string s))
kind_one_string {q = q} (Each.next {x = x} e Each.none) (Str.quoted {s = s} r) =
    kind_quoted x q (family_idchar x e) (word_ends (s ++ (0x22 ∷ [])) (Each.next e Each.none))
    ∙ rw (idchar_no_quote x q e, whole_yes (Str.quoted r), quoted_kind)
kind_one_string (Each.next {x = x} e (Each.next {x = y} {t = u} f p)) (Str.quoted {s = s} r) =
    kind_two x y u (s ++ (0x22 ∷ [])) (Each.next e (Each.next f p))

-- idchars, a string, and more
pub kind_more : {u q v : List ℕ} (r : List ℕ) → Each idchar true u → Str lenient q v → (r ≡ [] → ⊥)
    → kind_of (u ++ (q ++ r)) ≡ kind.Reserved
unfolding quoted_kind
kind_more r Each.none (Str.quoted {s = s} q) n =
    kind_quoted 0x22 ((s ++ (0x22 ∷ [])) ++ r) family_quote (word_ends ((s ++ (0x22 ∷ [])) ++ r) Each.none)
    ∙ rw (whole_joined r (Str.quoted q) n, quoted_kind) (go (whole ((s ++ (0x22 ∷ [])) ++ r)))
  where
    go : (b : Bool) → elim b [ true ↦ kind.Reserved | false ↦ kind.Reserved ] ≡ kind.Reserved
    go true = refl
    go false = refl
kind_more r (Each.next {x = x} e Each.none) (Str.quoted {s = s} q) n =
    kind_quoted x (0x22 ∷ ((s ++ (0x22 ∷ [])) ++ r)) (family_idchar x e) (word_ends ((s ++ (0x22 ∷ [])) ++ r) (Each.next e Each.none))
    ∙ rw (idchar_no_quote x (0x22 ∷ ((s ++ (0x22 ∷ [])) ++ r)) e, whole_joined r (Str.quoted q) n, quoted_kind)
kind_more r (Each.next {x = x} e (Each.next {x = y} {t = u} f p)) (Str.quoted {s = s} q) n =
    kind_two x y u ((s ++ (0x22 ∷ [])) ++ r) (Each.next e (Each.next f p))
