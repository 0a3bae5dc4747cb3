-- How many values an error carries, of how many bits, and that the model's test of their width is right. Assumes nothing.
use Prim.Native.Nat.{ℕ, ◌^◌, ◌<◌}
use mathlib.Core.Path.{◌≡◌, refl, sym, ◌∙◌}
use mathlib.Core.Bool.{false, ◌||◌}
use native.Mathlib.Omega.{arith}
use lib.Dec.{ltb}
use lib.ListN.{length}
use borrow.Author.Tests.{ltb-false, le-ltb, ne_eqb}
use Rattle.wat.specs.declared.LexError.{LexError}
use Rattle.wat.specs.declared.LexError.TheVariants as error
use Rattle.wat.specs.{Bytes.between, Cases.error_number}
use Rattle.wat.proofs.Basics.{or_no}
use Rattle.messages.specs.ByNumber.{bits}
use Rattle.messages.specs.MessageModel.{wide}

-- an error's values: none, one or two of 32 bits, or the lengths of 22; and what the test says of a and b then
data Carried (n a b : ℕ) : ℕ → Type 0 where
  none : wide n a b ≡ false → Carried n a b 0
  one : bits n ≡ 32 → wide n a b ≡ ltb 0xFFFFFFFF a → Carried n a b 1
  two : bits n ≡ 32 → wide n a b ≡ ltb 0xFFFFFFFF b || ltb 0xFFFFFFFF a → Carried n a b 2
  lengths : bits n ≡ 64 → wide n a b ≡ false → Carried n a b 2

carried : (e : LexError) (a b : ℕ) → Carried (error_number e).0 a b (length (error_number e).1)
unfolding between bits wide
carried error.DanglingBlockComment a b = Carried.none refl
carried (error.Unexpected c) a b = Carried.one refl refl
carried (error.InvalidStringElement c) a b = Carried.one refl refl
carried (error.InvalidStringEscape c) a b = Carried.one refl refl
carried (error.InvalidHexDigit c) a b = Carried.one refl refl
carried (error.Expected w c) a b = Carried.two refl refl
carried error.UnexpectedEof a b = Carried.none refl
carried error.NumberTooBig a b = Carried.none refl
carried (error.InvalidUnicodeValue n) a b = Carried.one refl refl
carried error.LoneUnderscore a b = Carried.none refl
carried (error.ConfusingUnicode c) a b = Carried.one refl refl
carried (error.InvalidUtf8Id v e) a b = Carried.lengths refl refl
carried error.EmptyId a b = Carried.none refl
carried error.EmptyAnnotation a b = Carried.none refl
carried error.DoubleUnderscore a b = Carried.none refl

-- a and b have room in the fields of an error that carries k values
abbrev pub Room : ℕ → ℕ → ℕ → ℕ → Type 0
Room n a b k = (0 < k → a < 2 ^ bits n) × (1 < k → b < 2 ^ bits n)

under : (m : ℕ) → ltb 0xFFFFFFFF m ≡ false → m < 2 ^ 32
under m e = let h = ltb-false 0xFFFFFFFF m e in omega arith

roomy : {n a b k : ℕ} → Carried n a b k → wide n a b ≡ false → a < 2 ^ 64 → b < 2 ^ 64 → Room n a b k
roomy (Carried.none e) w h l = (λ x. absurd (omega arith), λ x. absurd (omega arith))
roomy {a = a} (Carried.one r e) w h l = (λ x. rw r (under a (sym e ∙ w)), λ x. absurd (omega arith))
roomy {a = a} {b = b} (Carried.two r e) w h l =
    let z = or_no (ltb 0xFFFFFFFF b) (ltb 0xFFFFFFFF a) (sym e ∙ w) in
    (λ x. rw r (under a z.1), λ x. rw r (under b z.0))
roomy (Carried.lengths r e) w h l = (λ x. rw r h, λ x. rw r l)

fitting : {n a b k : ℕ} → Carried n a b k → Room n a b k → wide n a b ≡ false
fitting (Carried.none e) r = e
fitting {n} {a = a} (Carried.one q e) r =
    let h : a < 2 ^ 32 = rw q at (r.0 (omega arith)) in e ∙ le-ltb 0xFFFFFFFF a (omega arith)
fitting {n} {a = a} {b = b} (Carried.two q e) r =
    let h : a < 2 ^ 32 = rw q at (r.0 (omega arith)) in
    let l : b < 2 ^ 32 = rw q at (r.1 (omega arith)) in
    let x = le-ltb 0xFFFFFFFF a (omega arith) in
    let y = le-ltb 0xFFFFFFFF b (omega arith) in
    e ∙ rw (x, y)
fitting (Carried.lengths q e) r = e

pub narrow : (n : ℕ) → (n ≡ 22 → ⊥) → bits n ≡ 32
unfolding bits
narrow n h = rw (ne_eqb n 22 h, bits)

-- words that pass the test have room, and what has room passes it
pub room : (e : LexError) {a b : ℕ} → wide (error_number e).0 a b ≡ false → a < 2 ^ 64 → b < 2 ^ 64
    → Room (error_number e).0 a b (length (error_number e).1)
room e {a} {b} w h l = roomy (carried e a b) w h l

pub not_wide : (e : LexError) {a b : ℕ} → Room (error_number e).0 a b (length (error_number e).1)
    → wide (error_number e).0 a b ≡ false
not_wide e {a} {b} r = fitting (carried e a b) r
