-- The examples of `Reads`, what the readers leave of `-10.5e+3` and of `-1_0.5e+3`, and of `IntegerWord`, the word of
-- `-0x1_0`. Assumes nothing.
use mathlib.Core.Path.{refl}
use mathlib.Core.Bool.{true, false}
use native.Mathlib.Omega.{arith}
use Rattle.wat.specs.declared.FloatKind.TheVariants.{Normal}
use Rattle.wat.specs.declared.Sign.TheVariants.{Minus}
use Rattle.wat.specs.declared.TokenKind.TheVariants.{Float}
use Rattle.wat_values.specs.declared.FloatPart.TheVariants as the
use Rattle.wat.specs.Bytes.{bytes, between}
use Rattle.wat.specs.Numbers.{digit, marks, Digits, Signed, Fraction, Exponent}
use Rattle.wat.specs.Strings.{Hex}
use Rattle.wat_values.specs.Integers.{Num, Word, IntegerWord}
use Rattle.wat_values.specs.Values.{Reader, part, copy, copy_or_part, bare, Split, Reads}

five : Digits false (bytes "5")
unfolding digit between
five = Digits.last refl

three : Digits false (bytes "3")
unfolding digit between
three = Digits.last refl

power : Exponent false (bytes "e+3")
unfolding marks
power = Exponent.power refl Signed.plus three

ten : Split false (bytes "-10.5e+3") Minus (bytes "-") (bytes "10") (bytes ".5") (bytes "e+3")
unfolding digit between
ten =
    record {
      signed = Signed.minus;
      whole = Digits.next refl (Digits.last refl);
      after = Fraction.dot_digits five;
      power = power;
      is =
          refl;
    }

ten_integral : Reads (Reader.float the.Integral) (Float (Normal false false)) (bytes "-10.5e+3") (part 0 (bytes "-10"))
unfolding copy_or_part bare
ten_integral = Reads.an_integral ten

ten_fraction : Reads (Reader.float the.Fraction) (Float (Normal false false)) (bytes "-10.5e+3") (part 4 (bytes "5"))
unfolding copy_or_part bare
ten_fraction = Reads.a_fraction ten five

ten_exponent : Reads (Reader.float the.Exponent) (Float (Normal false false)) (bytes "-10.5e+3") (part 7 (bytes "3"))
unfolding copy_or_part bare
ten_exponent = Reads.an_exponent ten Signed.plus three

gap : Split false (bytes "-1_0.5e+3") Minus (bytes "-") (bytes "1_0") (bytes ".5") (bytes "e+3")
unfolding digit between
gap = record {
  signed = Signed.minus;
  whole = Digits.gap refl (Digits.last refl);
  after = Fraction.dot_digits five;
  power =
      power;
  is = refl;
}

gap_integral : Reads (Reader.float the.Integral) (Float (Normal true false)) (bytes "-1_0.5e+3") (copy (bytes "-10"))
unfolding copy_or_part bare
gap_integral = Reads.an_integral gap

gap_fraction : Reads (Reader.float the.Fraction) (Float (Normal true false)) (bytes "-1_0.5e+3") (copy (bytes "5"))
unfolding copy_or_part bare
gap_fraction = Reads.a_fraction gap five

gap_exponent : Reads (Reader.float the.Exponent) (Float (Normal true false)) (bytes "-1_0.5e+3") (copy (bytes "3"))
unfolding copy_or_part bare
gap_exponent = Reads.an_exponent gap Signed.plus three

-- ---- words

sixteen : Num true (bytes "1_0") 16
sixteen = Num.gap (Num.one (Hex.digit 1 (omega arith), omega arith)) (Hex.digit 0 (omega arith), omega arith)

sixteen_word : IntegerWord 32 (bytes "-0x1_0") 0xFFFFFFF0
sixteen_word = IntegerWord.literal Signed.minus sixteen refl (Word.minus {n = 16} (omega arith) (omega arith) refl)
