-- The classes of bytes and characters in other words: each rule is shown over all of its range by one test that antt
-- computes. Assumes nothing.
use Prim.Native.Nat.{ℕ, zero, suc, ◌+◌, ◌≤◌, ◌<◌}
use mathlib.Core.Path.{◌≡◌, refl, sym, ◌∙◌}
use mathlib.Core.Logic.{◌⊎◌, inl, inr, ⊎_elim}
use mathlib.Core.Bool.{Bool, true, false, ◌&&◌, ◌||◌}
use native.Mathlib.Omega.{arith}
use lib.Dec.{eqb}
use borrow.Author.Tests.{ne_eqb}
use Rattle.wat.specs.Bytes.{bytes, between, has}
use Rattle.wat.specs.Chars.{idchar, confusing}
use Rattle.wat.proofs.Basics.{between_over, between_under, below, never, has_every}
use Rattle.wat.proofs.Families.{false_of}
use Rattle.wat.proofs.Runs.{idchar_ascii}

abbrev same : Bool → Bool → Bool
same true b = b
same false true = false
same false false = true

same_true : (a b : Bool) → same a b ≡ true → a ≡ b
same_true true b e = sym e
same_true false true e = e
same_true false false e = refl

-- the test passes at n numbers from `from` on
abbrev passes : (ℕ → Bool) → ℕ → ℕ → Bool
passes f from zero = true
passes f from (suc n) = f from && passes f (suc from) n

passed : (f : ℕ → Bool) (from n : ℕ) → passes f from n ≡ true → (x : ℕ) → from ≤ x → x < from + n → f x ≡ true
passed f from zero e x h k = absurd (omega arith)
passed f from (suc n) e x h k = go (f from) refl e (λ q. passed f (suc from) n q x)
  where
    go : (b : Bool) → f from ≡ b → b && passes f (suc from) n ≡ true
        → (passes f (suc from) n ≡ true → suc from ≤ x → x < suc from + n → f x ≡ true) → f x ≡ true
    go true p e ih = ⊎_elim (λ l. let q : x ≡ from = omega arith in rw q p) (λ l. ih e l (omega arith)) (below x (suc from))
    go false p e ih = absurd (never e refl)

-- ---- idchars: any printable ASCII character but space, quotation mark, comma, semicolon and bracket (the standard, "Identifiers")

unfoldable pub printable : ℕ → Bool
printable x = elim (has x (bytes "\",;()[]{}")) [ true ↦ false | false ↦ between 0x21 0x7E x ]

idchars_tested : passes (λ x. same (idchar x) (printable x)) 0 0x80 ≡ true
unfolding idchar printable between has
idchars_tested = refl

printable_ascii : (x : ℕ) → 0x80 ≤ x → printable x ≡ false
unfolding printable
printable_ascii x h = go (has x (bytes "\",;()[]{}")) refl
  where
    go : (b : Bool) → has x (bytes "\",;()[]{}") ≡ b → printable x ≡ false
    go true e = rw (e, printable)
    go false e = rw (e, printable, between_over 0x21 0x7E x (omega arith))

pub idchar_printable : (x : ℕ) → idchar x ≡ printable x
idchar_printable x = ⊎_elim low high (below x 0x80)
  where
    low : x < 0x80 → idchar x ≡ printable x
    low h =
        same_true (idchar x) (printable x)
        (passed (λ x. same (idchar x) (printable x)) 0 0x80 idchars_tested x (omega arith) (omega arith))

    high : 0x80 ≤ x → idchar x ≡ printable x
    high h = false_of idchar x (λ e. let l = idchar_ascii x e in omega arith) ∙ sym (printable_ascii x h)

-- ---- the nine confusing characters: U+202A to U+202E but U+202C, U+2066 to U+2069, U+206C

unfoldable pub turning : ℕ → Bool
turning x = elim (eqb x 0x202C) [ true ↦ false | false ↦ between 0x202A 0x202E x || (between 0x2066 0x2069 x || eqb x 0x206C) ]

confusing_tested : passes (λ x. same (confusing x) (turning x)) 0x2000 0x80 ≡ true
unfolding confusing turning between has
confusing_tested = refl

outside : (x : ℕ) → (x < 0x2000) ⊎ (0x2080 ≤ x) → turning x ≡ false
unfolding turning
outside x h = go (eqb x 0x202C) refl
  where
    go : (b : Bool) → eqb x 0x202C ≡ b → turning x ≡ false
    go true e = rw (e, turning)
    go false e =
        ⊎_elim (λ l. rw (
          e,
          turning,
          between_under 0x202A 0x202E x (omega arith),
          between_under 0x2066 0x2069 x (omega arith),
          ne_eqb x 0x206C (omega arith),
        ))
        (λ l. rw (
          e,
          turning,
          between_over 0x202A 0x202E x (omega arith),
          between_over 0x2066 0x2069 x (omega arith),
          ne_eqb x 0x206C (omega arith),
        ))
        h

pub confusing_turning : (x : ℕ) → confusing x ≡ turning x
unfolding confusing
confusing_turning x = ⊎_elim (λ l. out (inl l)) (λ l. ⊎_elim (λ m. into l m) (λ m. out (inr m)) (below x 0x2080)) (below x 0x2000)
  where
    into : 0x2000 ≤ x → x < 0x2080 → confusing x ≡ turning x
    into l m =
        same_true (confusing x) (turning x) (passed (λ x. same (confusing x) (turning x)) 0x2000 0x80 confusing_tested x l (omega arith))

    out : (x < 0x2000) ⊎ (0x2080 ≤ x) → confusing x ≡ turning x
    out h =
        false_of confusing x (λ e. let r : (0x202A ≤ x) × (x ≤ 0x206C) =
        has_every (λ y. (0x202A ≤ y) × (y ≤ 0x206C)) _ x (omega arith) e in ⊎_elim (λ l. omega arith) (λ l. omega arith) h)
        ∙ sym (outside x h)
