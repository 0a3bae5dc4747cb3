-- The sign, the fraction and the exponent of a literal: what the model says of them, by the first byte of a word and the
-- one after it. Assumes nothing.
use Prim.Native.Nat.{ℕ, ◌+◌, ◌≤◌, ◌<◌}
use native.Mathlib.Omega.{arith}
use mathlib.Core.Path.{◌≡◌, refl, sym, ap, subst, ◌∙◌}
use mathlib.Core.Bool.{Bool, true, false, ◌||◌}
use mathlib.Core.List.{List, [], ◌∷◌}
use lib.Dec.{eqb}
use lib.ListN.{length, get_or, drop, length-drop}
use lib.Seq.{drop-drop}
use borrow.Author.Tests.{eqb-true, eq-eqb, ne_eqb}
use Rattle.std.specs.Prelude.{Option, Some, None}
use Rattle.wat.specs.declared.Sign.TheVariants.{Unsigned, Plus, Minus}
use Rattle.wat.specs.Bytes.{byte}
use Rattle.wat.specs.Numbers.{digit, marks}
use Rattle.wat.specs.NumberModel.{Past, past, run, sign_of, after_sign, fraction, after_dot, exponent}
use Rattle.lex_numbers.specs.declared.Skipped.{Skipped}
use Rattle.lex_numbers.specs.Places.{Skips, left_at, Within, PastSign}
use Rattle.lex_numbers.proofs.SliceLaws.{byte_first, none_left}

-- ---- by what `is_empty` says

pub no_byte : (word : List ℕ) {r : Bool} → r ≡ eqb (length word) 0 → r ≡ true → word ≡ []
no_byte [] p q = refl
no_byte (x ∷ xs) p q = let z = eqb-true (length (x ∷ xs)) 0 (sym p ∙ q) in absurd (omega arith)

pub some_byte : (word : List ℕ) {r : Bool} → r ≡ eqb (length word) 0 → r ≡ false → 0 < length word
some_byte [] p q = let z : true ≡ false = sym p ∙ q in cc
some_byte (x ∷ xs) p q = omega arith

-- ---- the sign

pub no_sign_left : (word : List ℕ) → word ≡ [] → Unsigned ≡ sign_of word
unfolding sign_of
no_sign_left word e = rw e

pub none_after_sign : (word : List ℕ) → word ≡ [] → PastSign word 0
unfolding after_sign
none_after_sign word e = rw e (record { same = refl; within = omega arith })

pub plus_first : (word : List ℕ) → 0 < length word → get_or word 0 0 ≡ byte "+" → Plus ≡ sign_of word
unfolding sign_of
plus_first [] h e = absurd (omega arith)
plus_first (x ∷ xs) h e = rw (eq-eqb x (byte "+") e, sign_of)

pub minus_first : (word : List ℕ) → 0 < length word → get_or word 0 0 ≡ byte "-" → Minus ≡ sign_of word
unfolding sign_of
minus_first [] h e = absurd (omega arith)
minus_first (x ∷ xs) h e = rw e

pub no_sign_first : (word : List ℕ) → 0 < length word → (get_or word 0 0 ≡ byte "+" → ⊥)
    → (get_or word 0 0 ≡ byte "-" → ⊥) → Unsigned ≡ sign_of word
unfolding sign_of
no_sign_first [] h p m = absurd (omega arith)
no_sign_first (x ∷ xs) h p m = rw (ne_eqb x (byte "+") p, ne_eqb x (byte "-") m, sign_of)

-- the byte is a sign
abbrev signs : ℕ → Bool
signs x = eqb x (byte "+") || eqb x (byte "-")

pub after_one : (word : List ℕ) → 0 < length word → signs (get_or word 0 0) ≡ true → PastSign word 1
unfolding after_sign
after_one [] h s = absurd (omega arith)
after_one (x ∷ xs) h s = record { same = go (eqb x (byte "+")) refl s; within = omega arith }
  where
    go : (p : Bool) → eqb x (byte "+") ≡ p → p || eqb x (byte "-") ≡ true → xs ≡ after_sign (x ∷ xs)
    go true e m = rw (e, after_sign)
    go false e m = rw (e, m, after_sign)

pub after_none : (word : List ℕ) → 0 < length word → signs (get_or word 0 0) ≡ false → PastSign word 0
unfolding after_sign
after_none [] h s = absurd (omega arith)
after_none (x ∷ xs) h s = record { same = go (eqb x (byte "+")) refl s; within = omega arith }
  where
    go : (p : Bool) → eqb x (byte "+") ≡ p → p || eqb x (byte "-") ≡ false → x ∷ xs ≡ after_sign (x ∷ xs)
    go true e m = let z : true ≡ false = m in cc
    go false e m = rw (e, m, after_sign)

pub ruleset signs_told =
    (no_byte, some_byte, no_sign_left, plus_first, minus_first, no_sign_first, none_after_sign, after_one, after_none)

-- ---- a part that follows others

-- nothing is passed
pub nothing_passed : {word : List ℕ} {m : Past} → m ≡ past false word → Skips word m (Some (record { underscores = false; at = 0 }))
nothing_passed e = record { same = e; within = omega arith }

-- digits are missing
pub missing : {word rest : List ℕ} {m n : Past} {r e : Option Skipped} → m ≡ n → Skips rest n r → r ≡ None → e ≡ None
    → Skips word m e
missing {rest = rest} q s n z = rw z (record { same = q ∙ s.same ∙ ap (left_at rest) n; within = tt })

-- digits are passed that stand i further on
pub passed_on : {word : List ℕ} {m n : Past} {r : Option Skipped} (i : ℕ) (d : Skipped) → i ≤ length word → m ≡ n
    → Skips (drop i word) n r → r ≡ Some d → Skips word m (Some (record { underscores = d.underscores; at = i + d.at }))
passed_on {word} i d h q s e =
    let w : d.at ≤ length (drop i word) = subst (Within (drop i word)) e s.within in
    record {
      same =
          q ∙ s.same ∙ ap (left_at (drop i word)) e ∙ ap (past d.underscores) (drop-drop d.at i word);
      within = omega (arith, length-drop i word);
    }

-- ---- the fraction

module _ (hex : Bool) where
  pub no_dot_left : (word : List ℕ) → word ≡ [] → fraction hex word ≡ past false word
  unfolding fraction
  no_dot_left word e = rw e

  pub no_dot_first : (word : List ℕ) → 0 < length word → (get_or word 0 0 ≡ byte "." → ⊥)
      → fraction hex word ≡ past false word
  unfolding fraction
  no_dot_first [] h n = absurd (omega arith)
  no_dot_first (x ∷ xs) h n = rw (ne_eqb x (byte ".") n, fraction)

  module _ (word : List ℕ) (h : 0 < length word) (dot : get_or word 0 0 ≡ byte ".") where
    dot_first : fraction hex word ≡ after_dot hex (drop 1 word)
    unfolding fraction
    dot_first = go word h dot
      where
        go : (s : List ℕ) → 0 < length s → get_or s 0 0 ≡ byte "." → fraction hex s ≡ after_dot hex (drop 1 s)
        go [] h e = absurd (omega arith)
        go (x ∷ xs) h e = rw (eq-eqb x (byte ".") e, fraction)

    dot_passed : fraction hex word ≡ past false (drop 1 word)
        → Skips word (fraction hex word) (Some (record { underscores = false; at = 1 }))
    dot_passed e = record { same = e; within = omega arith }

    pub dot_last : length word < 2 → Skips word (fraction hex word) (Some (record { underscores = false; at = 1 }))
    unfolding after_dot
    dot_last l = dot_passed (dot_first ∙ rw (none_left word 1 (omega arith)))

    pub dot_other : 2 ≤ length word → digit hex (get_or word 1 0) ≡ false
        → Skips word (fraction hex word) (Some (record { underscores = false; at = 1 }))
    unfolding after_dot
    dot_other l p = dot_passed (dot_first ∙ rw (byte_first word 1 (omega arith)) (rw (p, after_dot)))

    pub dot_digit : 2 ≤ length word → digit hex (get_or word 1 0) ≡ true → fraction hex word ≡ run hex true (drop 1 word)
    unfolding after_dot
    dot_digit l p = dot_first ∙ rw (byte_first word 1 (omega arith)) (rw (p, after_dot))

  -- ---- the exponent

  pub no_mark_left : (word : List ℕ) → word ≡ [] → exponent hex word ≡ past false word
  unfolding exponent
  no_mark_left word e = rw e

  pub no_mark_first : (word : List ℕ) → 0 < length word → marks hex (get_or word 0 0) ≡ false
      → Skips word (exponent hex word) None
  unfolding exponent
  no_mark_first [] h p = absurd (omega arith)
  no_mark_first (x ∷ xs) h p = record { same = rw (p, exponent); within = tt }

  -- the digits stand after the mark and the sign
  pub mark_first : (word : List ℕ) (i : ℕ) → 0 < length word → marks hex (get_or word 0 0) ≡ true → PastSign (drop 1 word) i
      → exponent hex word ≡ run false true (drop (1 + i) word)
  unfolding exponent
  mark_first [] i h p s = absurd (omega arith)
  mark_first (x ∷ xs) i h p s = rw (p, exponent) (ap (run false true) (sym s.same ∙ drop-drop i 1 (x ∷ xs)))

  pub sign_within : (word : List ℕ) (i : ℕ) → 0 < length word → PastSign (drop 1 word) i → 1 + i ≤ length word
  sign_within word i h s = omega (arith, s.within, length-drop 1 word)

pub ruleset fractions = (no_byte, some_byte, nothing_passed, no_dot_left, no_dot_first, dot_last, dot_digit, dot_other)

pub ruleset exponents = (no_byte, some_byte, nothing_passed, no_mark_left, no_mark_first, mark_first, sign_within)
