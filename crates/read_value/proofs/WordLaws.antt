-- The words of N bits, where max is 2^N - 1: which numbers have one, and which it is; and so which literals. Assumes nothing.
use Prim.Native.Nat.{ℕ, zero, suc, ◌+◌, ◌-◌, ◌/◌, ◌^◌, ◌≤◌, ◌<◌}
use native.Mathlib.Nat.{pow-suc}
use native.Mathlib.Omega.{arith}
use mathlib.Core.Path.{◌≡◌, refl, sym, ap, subst, ◌∙◌}
use mathlib.Core.Bool.{Bool}
use mathlib.Core.List.{List, [], ◌++◌, append-nil}
use lib.Seq.{slice}
use Rattle.wat.specs.declared.Sign.{Sign}
use Rattle.wat.specs.declared.Sign.TheVariants.{Unsigned, Plus, Minus}
use Rattle.wat_values.specs.IntegerValue as value
use Rattle.wat.specs.Numbers.{prefix, IsInteger, IsFloat}
use Rattle.wat_values.specs.Values.{Split}
use Rattle.wat_values.specs.Integers.{radix, Num, Word, IntegerWord, Worded}
use Rattle.wat_values.specs.IntegerModel.{amount}
use Rattle.wat_values.proofs.SomeValue.{integer_split, integer_float}
use Rattle.wat_values.proofs.IntegerLaws.{num_some, literal_one}
use Rattle.read_parts.specs.Handing.{At, Leaves}
use Rattle.read_value.specs.Amounts.{greatest, negated, word_of}

pub greatest_same : {sign sign' : Sign} (max : ℕ) → sign ≡ sign' → greatest sign max ≡ greatest sign' max
greatest_same max e = ap (λ (s : Sign). greatest s max) e

pub negated_some : (n max : ℕ) → (n ≡ 0 → ⊥) → negated n max ≡ max - (n - 1)
unfolding negated
negated_some zero max h = absurd (h refl)
negated_some (suc n) max h = omega arith

-- ---- a number with a sign

half : (N max : ℕ) → 2 ^ N ≡ max + 1 → 2 ^ (N - 1) ≡ max / 2 + 1
half zero max e = omega arith
half (suc N) max e = let q : suc N - 1 ≡ N = omega arith in rw q (omega (arith, pow-suc 2 N))

module _ {N : ℕ} (max : ℕ) (ones : 2 ^ N ≡ max + 1) where
  -- a number with a word is no greater than its sign's greatest
  word_bounded : {sign : Sign} {n v : ℕ} → Word N sign n v → n ≤ greatest sign max
  word_bounded (Word.unsigned h) = omega arith
  word_bounded (Word.plus h) = omega (arith, half N max ones)
  word_bounded Word.minus_zero = omega arith
  word_bounded (Word.minus s h e) = omega (arith, half N max ones)

  -- and each that is not has one
  word_made : (sign : Sign) (n : ℕ) → n ≤ greatest sign max → Word N sign n (word_of sign n max)
  unfolding negated
  word_made Unsigned n h = Word.unsigned {n = n} (omega arith)
  word_made Plus n h = Word.plus {n = n} (omega (arith, half N max ones))
  word_made Minus zero h = Word.minus_zero
  word_made Minus (suc n) h = Word.minus {n = suc n} {v = max - n} (omega arith) (omega (arith, half N max ones)) (omega arith)

-- ---- a literal

-- a literal of an integer is one of a float too, as its digits are read
pub also_float : {sign : Sign} {hex : Bool} {text : List ℕ} {at end : ℕ} → At (IsInteger sign hex) text at end
    → At (IsFloat hex) text at end
also_float t = record { order = t.order; fits = t.fits; is = integer_float t.is }

-- its digits are what the prefix leaves
pub digits_left : {sign : Sign} {hex : Bool} {text : List ℕ} {at end from : ℕ} → At (IsInteger sign hex) text at end
    → Leaves hex text at end (λ p f e. p ++ (f ++ e)) from
    → (u : List ℕ) × Split hex (slice at end text) sign u (slice from end text) [] []
digits_left {sign} {hex} {text} {at} {end} {from} t l =
    let x = integer_split t.is in
    let q : slice from end text ≡ x.1 = (l sign x.0 x.1 [] [] x.2).same ∙ append-nil x.1 in
    (x.0, subst (λ (p : List ℕ). Split hex (slice at end text) sign x.0 p [] []) (sym q) x.2)

module _ {hex : Bool} {sign : Sign} {w u s : List ℕ} (x : Split hex w sign u s [] []) where
  spelt : w ≡ u ++ (prefix hex ++ s)
  spelt = x.is ∙ ap (λ (z : List ℕ). u ++ (prefix hex ++ z)) (append-nil s)

  number : Num hex s (amount (radix hex) 0 s)
  number = num_some x.whole

  module _ {N : ℕ} (max : ℕ) (ones : 2 ^ N ≡ max + 1) where
    pub too_great : greatest sign max < amount (radix hex) 0 s → Worded N w value.OutOfRange
    too_great h = Worded.out_of_range (λ v i. go i)
      where
        go : {v : ℕ} → IntegerWord N w v → ⊥
        go (IntegerWord.literal g d e word) =
            let o = literal_one x.signed g number d spelt e in
            omega (arith, o.2, word_bounded max ones word, greatest_same max o.1)

    pub worded : {n v : ℕ} → n ≡ amount (radix hex) 0 s → amount (radix hex) 0 s ≤ greatest sign max → v ≡ word_of sign n max
        → Worded N w (value.Word v)
    worded {n} {v} e h q =
        Worded.word
        (IntegerWord.literal x.signed (subst (Num hex s) (sym e) number) spelt
        (subst (Word N sign n) (sym q) (word_made max ones sign n (omega arith))))
