-- The confusing characters are from U+202A to U+206C, and have three bytes, which tell them. Assumes nothing.
use Prim.Native.Nat.{ℕ, ◌+◌, ◌/◌, ◌%◌, ◌≤◌, ◌<◌}
use mathlib.Core.Path.{◌≡◌, refl, sym, ap, ◌∙◌}
use mathlib.Core.Logic.{◌⊎◌, inl, inr, ⊎_elim}
use mathlib.Core.Bool.{Bool, true, false, not, ◌&&◌, ◌||◌, and-eq-true_iff}
use mathlib.Core.List.{List, [], ◌∷◌}
use native.Mathlib.Omega.{arith}
use lib.ListN.{get_or}
use lib.Dec.{eqb}
use borrow.Author.Tests.{le-ltb, lt-ltb, ne_eqb, eqb-true, not-true}
use Rattle.wat.specs.Bytes.{between, has}
use Rattle.wat.specs.Utf8.{Char, scalar}
use Rattle.wat.specs.Chars.{confusing}
use Rattle.wat.specs.StringModel.{encode}
use Rattle.wat.proofs.Basics.{never, has_every, or_split, between_true}
use Rattle.wat.proofs.ScalarValues.{char_right}
use Rattle.lex_classes.specs.Ask.{confusing_bytes}
use Rattle.lex_classes.proofs.AskLaws.{in_range}

abbrev Near : ℕ → Type 0
Near n = (0x2000 ≤ n) × (n < 0x2080)

near : (n : ℕ) → confusing n ≡ true → Near n
unfolding confusing
near n e = has_every Near _ n (omega arith) e

pub confusing_not : (n : ℕ) → (Near n → ⊥) → confusing n ≡ false
confusing_not n f = go (confusing n) refl
  where
    go : (b : Bool) → confusing n ≡ b → confusing n ≡ false
    go true e = absurd (f (near n e))
    go false e = e

-- the bytes of a character from U+0800 to U+FFFF are said to be confusing
abbrev Told : ℕ → Type 0
Told n = confusing_bytes (0xE0 + n / 0x1000) (0x80 + n / 0x40 % 0x40) (0x80 + n % 0x40) ≡ true

told : (n : ℕ) → confusing n ≡ true → Told n
unfolding confusing confusing_bytes between
told n e = has_every Told _ n (refl, (refl, (refl, (refl, (refl, (refl, (refl, (refl, (refl, tt))))))))) e

-- bytes that are not said to be confusing are not
pub unconfusing : (c : List ℕ) → Char c → confusing_bytes (get_or c 0 0) (get_or c 1 0) (get_or c 2 0) ≡ false
    → confusing (scalar c) ≡ false
unfolding encode
unconfusing c ch f = go (confusing (scalar c)) refl
  where
    go : (b : Bool) → confusing (scalar c) ≡ b → confusing (scalar c) ≡ false
    go false e = e
    go true e =
        let n = scalar c in
        let span = near n e in
        let three : encode n ≡ (0xE0 + n / 0x1000) ∷ (0x80 + n / 0x40 % 0x40) ∷ (0x80 + n % 0x40) ∷ [] =
        rw (le-ltb n 0x80 (omega arith), le-ltb n 0x800 (omega arith), lt-ltb n 0x10000 (omega arith)) in
        let bytes = sym (char_right c ch).0 ∙ three in
        absurd (never (ap (λ (l : List ℕ). confusing_bytes (get_or l 0 0) (get_or l 1 0) (get_or l 2 0)) bytes ∙ told n e) f)

-- where such bytes stand
pub spread : (b c d : ℕ) → confusing_bytes b c d ≡ true
    → (b ≡ 0xE2) × ((c ≡ 0x80) ⊎ (c ≡ 0x81)) × (0xA6 ≤ d) × (d ≤ 0xAE)
unfolding confusing_bytes
spread b c d e =
    let p = (and-eq-true_iff (eqb b 0xE2) _).0 e in
    ⊎_elim (λ q.
    let r = (and-eq-true_iff (eqb c 0x80) _).0 q in
    let t = between_true 0xAA 0xAE d ((and-eq-true_iff (between 0xAA 0xAE d) _).0 r.1).0 in
    (eqb-true b 0xE2 p.0, inl (eqb-true c 0x80 r.0), omega (arith, t.0), omega (arith, t.1))) (λ q.
    let r = (and-eq-true_iff (eqb c 0x81) _).0 q in
    let t : (0xA6 ≤ d) × (d ≤ 0xAE) =
    ⊎_elim (λ t. let u = between_true 0xA6 0xA9 d t in (omega (arith, u.0), omega (arith, u.1)))
    (λ t. let u = eqb-true d 0xAC t in (omega arith, omega arith)) (or_split (between 0xA6 0xA9 d) (eqb d 0xAC) r.1) in
    (eqb-true b 0xE2 p.0, inr (eqb-true c 0x81 r.0), t.0, t.1))
    (or_split (eqb c 0x80 && (between 0xAA 0xAE d && not (eqb d 0xAC))) _ p.1)

-- bytes that are said to be confusing are
abbrev agrees : ℕ → ℕ → Bool
agrees c d = not (confusing_bytes 0xE2 c d) || confusing (scalar (0xE2 ∷ c ∷ d ∷ []))

agreed : (c d : ℕ) → (c ≡ 0x80) ⊎ (c ≡ 0x81) → 0xA6 ≤ d → d ≤ 0xAE → agrees c d ≡ true
unfolding confusing_bytes confusing scalar between has
agreed c d (inl e) h l = rw e (in_range (agrees 0x80) 0xA6 9 d refl h (omega arith))
agreed c d (inr e) h l = rw e (in_range (agrees 0x81) 0xA6 9 d refl h (omega arith))

pub confusing_told : (c d : ℕ) → confusing_bytes 0xE2 c d ≡ true → confusing (scalar (0xE2 ∷ c ∷ d ∷ [])) ≡ true
confusing_told c d e =
    let p = spread 0xE2 c d e in
    ⊎_elim (λ q. absurd (never e (not-true _ q))) (λ q. q)
    (or_split (not (confusing_bytes 0xE2 c d)) _ (agreed c d p.1 p.2 p.3))

-- such bytes begin with 0xE2
pub unled : (b c d : ℕ) → (b ≡ 0xE2 → ⊥) → confusing_bytes b c d ≡ false
unfolding confusing_bytes
unled b c d n = rw (ne_eqb b 0xE2 n)
