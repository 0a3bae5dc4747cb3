-- The value of an integer (the standard, "Integers"): the number that digits are, and the word of N bits that a literal
-- is. Refusals of the call come in the order 1 to 4, 30, 31, 40 (docs/RULES.md, 17).
use Rattle.std.specs.Prelude.{ℕ, ◌+◌, ◌-◌, ◌*◌, ◌^◌, ◌≤◌, ◌<◌, ◌≡◌, Bool, true, false, List, [], ◌∷◌, ◌++◌}
use Rattle.wat.specs.declared.{Sign.Sign, IntegerKind.IntegerKind, Token.Token, Refusal.Refusal}
use Rattle.wat.specs.declared.Sign.TheVariants.{Unsigned, Plus, Minus}
use Rattle.wat.specs.declared.TokenKind.TheVariants as kind
use Rattle.wat.specs.declared.Refusal.TheVariants.{NotThatKind}
use Rattle.wat_values.specs.IntegerValue.{IntegerValue}
use Rattle.wat_values.specs.IntegerValue as value
use Rattle.wat.specs.{Bytes.byte, Strings.Hex}
use Rattle.wat.specs.Numbers.{prefix, Signed}
use Rattle.wat_values.specs.Reading.{There, no_place, Missing, own}

-- ---- digits

abbrev pub radix : Bool → ℕ
radix false = 10
radix true = 16

-- digit, and where `hex` hexdigit: a digit and its value
abbrev pub DigitOf : Bool → ℕ → ℕ → Type 0
DigitOf hex d n = Hex d n × (n < radix hex)

-- num, and where `hex` hexnum: digits, with single underscores between some of them, and the number that they are
pub data Num (hex : Bool) : List ℕ → ℕ → Type 0 where
  one : {d n : ℕ} → DigitOf hex d n → Num hex (d ∷ []) n
  more : {s : List ℕ} {n d m : ℕ} → Num hex s n → DigitOf hex d m → Num hex (s ++ (d ∷ [])) (n * radix hex + m)
  gap : {s : List ℕ} {n d m : ℕ} → Num hex s n → DigitOf hex d m
      → Num hex (s ++ (byte "_" ∷ d ∷ [])) (n * radix hex + m)

-- ---- words

-- the word of N bits that a sign and a number are
pub data Word (N : ℕ) : Sign → ℕ → ℕ → Type 0 where
  -- uN: below 2^N
  unsigned : {n : ℕ} → n < 2 ^ N → Word N Unsigned n n
  -- sN: below 2^(N-1), and not below -2^(N-1). The word of -n is its two's complement, which n completes to 2^N
  plus : {n : ℕ} → n < 2 ^ (N - 1) → Word N Plus n n
  minus_zero : Word N Minus 0 0
  minus : {n v : ℕ} → 0 < n → n ≤ 2 ^ (N - 1) → n + v ≡ 2 ^ N → Word N Minus n v

-- iN: the word v of N bits that a literal w is. `-0x1_0` has the sign `-` and the digits `1_0`, whose number is 16; its
-- word of 32 bits is 0xFFFFFFF0
pub data IntegerWord (N : ℕ) (w : List ℕ) (v : ℕ) : Type 0 where
  literal : {hex : Bool} {sign : Sign} {u s : List ℕ} {n : ℕ} → Signed sign u → Num hex s n
      → w ≡ u ++ (prefix hex ++ s) → Word N sign n v → IntegerWord N w v

-- ---- the call for N bits

-- the number of a literal that no word of N bits is; no `Refusal` is that
abbrev pub out_of_range_number : ℕ
out_of_range_number = 40

-- the answer for a literal: its word, or 40 where it has none
pub data Worded (N : ℕ) (w : List ℕ) : IntegerValue → Type 0 where
  word : {v : ℕ} → IntegerWord N w v → Worded N w (value.Word v)
  out_of_range : ((v : ℕ) → IntegerWord N w v → ⊥) → Worded N w value.OutOfRange

pub data ReadsWord (N : ℕ) (text : List ℕ) (token : Token) : IntegerValue → Type 0 where
  missing : {r : Refusal} {p : ℕ} → Missing text token r p → ReadsWord N text token (value.Refused r p)
  other_kind : There text token → ((i : IntegerKind) → token.kind ≡ kind.Integer i → ⊥)
      → ReadsWord N text token (value.Refused NotThatKind no_place)
  integer : {i : IntegerKind} {a : IntegerValue} → There text token → token.kind ≡ kind.Integer i
      → Worded N (own text token) a → ReadsWord N text token a
