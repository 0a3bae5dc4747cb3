-- The classes of bytes, and the families of tokens by their first byte. Assumes nothing.
use Prim.Native.Nat.{ℕ}
use mathlib.Core.Path.{◌≡◌, refl}
use mathlib.Core.Logic.{◌⊎◌, inl, inr}
use mathlib.Core.List.{[], ◌∷◌}
use mathlib.Core.Bool.{Bool, true, false}
use lib.Dec.{eqb}
use borrow.Author.Tests.{eqb-true, eqb-false}
use Rattle.wat.specs.Bytes.{bytes, between, has}
use Rattle.wat.specs.Lexing.{begins}
use Rattle.wat.specs.Chars.{idchar, space, punctuation}
use Rattle.wat.specs.declared.Family.{Family}
use Rattle.wat.specs.declared.Family.TheVariants.{Spaces as spaces, OpenParen as open_paren, CloseParen as close_paren}
use Rattle.wat.specs.declared.Family.TheVariants.{Single as single, Semi as semi, Run as run, Other as other}
use Rattle.wat.specs.LexModel.{family}
use Rattle.wat.proofs.Numbers.Digits.{apart}
use Rattle.wat.proofs.Basics.{never, has_every}

pub false_of : (f : ℕ → Bool) (x : ℕ) → (f x ≡ true → ⊥) → f x ≡ false
false_of f x n = go (f x) refl
  where
    go : (b : Bool) → f x ≡ b → f x ≡ false
    go true e = absurd (n e)
    go false e = e

idchar_no_space : (x : ℕ) → idchar x ≡ true → space x ≡ false
unfolding space idchar between has
idchar_no_space x e =
    false_of space x (λ p. never e
    (has_every (λ y. idchar y ≡ false) (0x20 ∷ 0x09 ∷ 0x0A ∷ 0x0D ∷ []) x (refl, (refl, (refl, (refl, tt)))) p))

idchar_no_punctuation : (x : ℕ) → idchar x ≡ true → punctuation x ≡ false
unfolding punctuation idchar between has
idchar_no_punctuation x e =
    false_of punctuation x (λ p. never e
    (has_every (λ y. idchar y ≡ false) (bytes ",;[]{}") x (refl, (refl, (refl, (refl, (refl, (refl, tt)))))) p))

pub family_space : (x : ℕ) → space x ≡ true → family x ≡ spaces
unfolding family
family_space x e = rw (e, family)

pub family_idchar : (x : ℕ) → idchar x ≡ true → family x ≡ run
unfolding family idchar between has
family_idchar x e =
    rw (
      idchar_no_space x e,
      apart idchar x 0x28 e refl,
      apart idchar x 0x29 e refl,
      apart idchar x 0x3B e refl,
      idchar_no_punctuation x e,
      e,
      family,
    )

pub family_quote : family 0x22 ≡ run
unfolding family idchar between has space punctuation
family_quote = refl

abbrev pub Mark : ℕ → Type 0
Mark x = (family x ≡ single) ⊎ (family x ≡ semi)

pub family_punctuation : (x : ℕ) → punctuation x ≡ true → Mark x
unfolding punctuation family idchar between has space
family_punctuation x e = has_every Mark (bytes ",;[]{}") x (inl refl, (inr refl, (inl refl, (inl refl, (inl refl, (inl refl, tt)))))) e

-- the families, and what each says of the byte
pub data Families (x : ℕ) : Family → Type 0 where
  is_space : space x ≡ true → Families x spaces
  is_open : x ≡ 0x28 → Families x open_paren
  is_close : x ≡ 0x29 → Families x close_paren
  is_semi : x ≡ 0x3B → Families x semi
  is_single : punctuation x ≡ true → (x ≡ 0x3B → ⊥) → Families x single
  is_char : idchar x ≡ true → Families x run
  is_quote : x ≡ 0x22 → Families x run
  is_other : begins x ≡ false → Families x other

pub families : (x : ℕ) → Families x (family x)
unfolding family begins
families x = go (space x) refl
  where
    go6 : (b : Bool) → space x ≡ false → eqb x 0x28 ≡ false → eqb x 0x29 ≡ false → eqb x 0x3B ≡ false
        → punctuation x ≡ false → idchar x ≡ false → eqb x 0x22 ≡ b → Families x (family x)
    go6 true p q r s t u v = rw (p, q, r, s, t, u, v, family) (is_quote (eqb-true x 0x22 v))
    go6 false p q r s t u v = rw (p, q, r, s, t, u, v, family) (is_other (rw (p, q, r, t, u, v)))

    go5 : (b : Bool) → space x ≡ false → eqb x 0x28 ≡ false → eqb x 0x29 ≡ false → eqb x 0x3B ≡ false
        → punctuation x ≡ false → idchar x ≡ b → Families x (family x)
    go5 true p q r s t u = rw (p, q, r, s, t, u, family) (is_char u)
    go5 false p q r s t u = go6 (eqb x 0x22) p q r s t u refl

    go4 : (b : Bool) → space x ≡ false → eqb x 0x28 ≡ false → eqb x 0x29 ≡ false → eqb x 0x3B ≡ false
        → punctuation x ≡ b → Families x (family x)
    go4 true p q r s t = rw (p, q, r, s, t, family) (is_single t (eqb-false x 0x3B s))
    go4 false p q r s t = go5 (idchar x) p q r s t refl

    go3 : (b : Bool) → space x ≡ false → eqb x 0x28 ≡ false → eqb x 0x29 ≡ false → eqb x 0x3B ≡ b → Families x (family x)
    go3 true p q r s = rw (p, q, r, s, family) (is_semi (eqb-true x 0x3B s))
    go3 false p q r s = go4 (punctuation x) p q r s refl

    go2 : (b : Bool) → space x ≡ false → eqb x 0x28 ≡ false → eqb x 0x29 ≡ b → Families x (family x)
    go2 true p q r = rw (p, q, r, family) (is_close (eqb-true x 0x29 r))
    go2 false p q r = go3 (eqb x 0x3B) p q r refl

    go1 : (b : Bool) → space x ≡ false → eqb x 0x28 ≡ b → Families x (family x)
    go1 true p q = rw (p, q, family) (is_open (eqb-true x 0x28 q))
    go1 false p q = go2 (eqb x 0x29) p q refl

    go : (b : Bool) → space x ≡ b → Families x (family x)
    go true p = rw (p, family) (is_space p)
    go false p = go1 (eqb x 0x28) p refl
