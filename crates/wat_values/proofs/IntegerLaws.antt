-- The value of an integer: digits have a number and just one, a literal has at most one word of N bits, the call has one
-- answer. Each law stands over the radix and the width. Assumes nothing.
use Prim.Native.Nat.{ℕ, zero, suc, ◌+◌, ◌-◌, ◌*◌, ◌^◌, ◌≤◌, ◌<◌}
use mathlib.Core.Path.{◌≡◌, refl, sym, ap, subst, ◌∙◌}
use mathlib.Core.Logic.{◌⊎◌, inl, inr, ⊎_elim}
use mathlib.Core.Bool.{Bool, true, false}
use mathlib.Core.List.{List, [], ◌∷◌, ◌++◌, append-nil}
use native.Mathlib.Omega.{arith}
use lib.Dec.{eqb}
use lib.Pow.{pow_pos, pow_mono}
use Rattle.wat.specs.declared.{Sign.Sign, Token.Token}
use Rattle.wat.specs.declared.Sign.TheVariants.{Unsigned, Plus, Minus}
use Rattle.wat.specs.declared.Number.TheVariants.{Integer}
use Rattle.wat.specs.declared.Settings.{Settings}
use Rattle.wat_values.specs.IntegerValue.{IntegerValue}
use Rattle.wat_values.specs.IntegerValue as value
use Rattle.wat.specs.{Bytes.byte, Bytes.has}
use Rattle.wat.specs.Numbers.{digit, prefix, Digits, Signed, Fraction, Exponent, IsInteger, Literal}
use Rattle.wat.specs.Strings.{Hex, HexNum}
use Rattle.wat_values.specs.Values.{Split}
use Rattle.wat_values.specs.Integers.{radix, DigitOf, Num, Word, IntegerWord, Worded, ReadsWord}
use Rattle.wat_values.specs.IntegerModel.{digit_value, amount}
use Rattle.wat.proofs.Basics.{below, between_in, between_true, never, or_split}
use Rattle.wat.proofs.HexDigits.{hex_not, hex_small, tested_digit, digit_yes}
use Rattle.wat.proofs.Numbers.Standard as standard
use Rattle.wat.proofs.Numbers.Decides.{one_kind}
use Rattle.wat_values.proofs.OneValue.{split_one}
use Rattle.wat_values.proofs.OneReading.{missing_one, there_or_missing}

-- ---- digits

digit_value_lem : {d n : ℕ} → Hex d n → digit_value d ≡ n
unfolding digit_value
digit_value_lem (Hex.digit n h) = omega arith
digit_value_lem (Hex.upper n h) = omega arith
digit_value_lem (Hex.lower n h) = omega arith

-- what the grammar tests, and a digit with its value
of_digit : (hex : Bool) {d n : ℕ} → DigitOf hex d n → digit hex d ≡ true
unfolding digit
of_digit true {d} {n} x = digit_yes d (n, x.0)
of_digit false {d} (Hex.digit n h, l) = rw (between_in 0x30 0x39 (0x30 + n) (omega arith) (omega arith))
of_digit false (Hex.upper n h, l) = absurd (omega arith)
of_digit false (Hex.lower n h, l) = absurd (omega arith)

decimal : (d : ℕ) → digit false d ≡ true → (n : ℕ) × DigitOf false d n
unfolding digit
decimal d p =
    let x = between_true 0x30 0x39 d (⊎_elim (λ e. e) (λ e. absurd (never e refl)) (or_split _ _ p)) in
    let e : 0x30 + (d - 0x30) ≡ d = omega arith in
    let l : d - 0x30 < 10 = omega arith in
    (d - 0x30, (subst (λ (z : ℕ). Hex z (d - 0x30)) e (Hex.digit (d - 0x30) l), l))

digit_of_lem : (hex : Bool) (d : ℕ) → digit hex d ≡ true → DigitOf hex d (digit_value d)
digit_of_lem hex d p = let x = some hex p in subst (DigitOf hex d) (sym (digit_value_lem x.1.0)) x.1
  where
    some : (hex : Bool) → digit hex d ≡ true → (n : ℕ) × DigitOf hex d n
    some true q = let x = tested_digit d q in (x.0, (x.1, hex_small x.1))
    some false q = decimal d q

-- one byte more
amount_digit : (r n : ℕ) {d m : ℕ} (t : List ℕ) → Hex d m → amount r n (d ∷ t) ≡ amount r (n * r + m) t
unfolding amount
amount_digit r n t h = rw (hex_not (byte "_") (omega arith) h, digit_value_lem h, amount) refl

amount_gap : (r n : ℕ) (t : List ℕ) → amount r n (byte "_" ∷ t) ≡ amount r n t
unfolding amount
amount_gap r n t = refl

amount_append : (r n : ℕ) (s t : List ℕ) → amount r n (s ++ t) ≡ amount r (amount r n s) t
unfolding amount
amount_append r n [] t = refl
amount_append r n (b ∷ s) t = go (eqb b (byte "_")) refl (amount_append r n s t) (amount_append r (n * r + digit_value b) s t)
  where
    go : (x : Bool) → eqb b (byte "_") ≡ x → amount r n (s ++ t) ≡ amount r (amount r n s) t
        → amount r (n * r + digit_value b) (s ++ t) ≡ amount r (amount r (n * r + digit_value b) s) t
        → amount r n (b ∷ (s ++ t)) ≡ amount r (amount r n (b ∷ s)) t
    go true e p q = rw (e, amount) p
    go false e p q = rw (e, amount) q

-- ---- the number of digits

pub num_amount : {hex : Bool} {s : List ℕ} {n : ℕ} → Num hex s n → amount (radix hex) 0 s ≡ n
unfolding amount
num_amount {hex} (Num.one {n = n} x) = amount_digit (radix hex) 0 [] x.0 ∙ (let e : 0 * radix hex + n ≡ n = omega arith in e)
num_amount {hex} (Num.more {s = s} {n = n} {d = d} {m = m} r x) =
    amount_append (radix hex) 0 s (d ∷ []) ∙ amount_digit (radix hex) (amount (radix hex) 0 s) [] x.0
    ∙ ap (λ k. k * radix hex + m) (num_amount r)
num_amount {hex} (Num.gap {s = s} {n = n} {d = d} {m = m} r x) =
    amount_append (radix hex) 0 s (byte "_" ∷ d ∷ [])
    ∙ amount_gap (radix hex) (amount (radix hex) 0 s) (d ∷ [])
    ∙ amount_digit (radix hex) (amount (radix hex) 0 s) [] x.0
    ∙ ap (λ k. k * radix hex + m) (num_amount r)

-- digits are one number
pub num_one : {hex : Bool} {s : List ℕ} {n m : ℕ} → Num hex s n → Num hex s m → n ≡ m
num_one a b = sym (num_amount a) ∙ num_amount b

-- and some number
valued : {hex : Bool} {s : List ℕ} → standard.Num hex s → (n : ℕ) × Num hex s n
valued {hex} (standard.Num.one p) = (_, Num.one (digit_of_lem hex _ p))
valued {hex} (standard.Num.snoc d r p) = (_, Num.more (valued r).1 (digit_of_lem hex d p))
valued {hex} (standard.Num.snoc_gap d r p) = (_, Num.gap (valued r).1 (digit_of_lem hex d p))

pub num_some : {hex : Bool} {s : List ℕ} → Digits hex s → Num hex s (amount (radix hex) 0 s)
num_some {hex} {s} d = let x = valued (standard.from_digits d) in subst (Num hex s) (sym (num_amount x.1)) x.1

-- they are the grammar's digits
pub num_digits : {hex : Bool} {s : List ℕ} {n : ℕ} → Num hex s n → Digits hex s
num_digits r = standard.to_digits (bare r)
  where
    bare : {hex : Bool} {s : List ℕ} {n : ℕ} → Num hex s n → standard.Num hex s
    bare {hex} (Num.one x) = standard.Num.one (of_digit hex x)
    bare {hex} (Num.more r x) = standard.Num.snoc _ (bare r) (of_digit hex x)
    bare {hex} (Num.gap r x) = standard.Num.snoc_gap _ (bare r) (of_digit hex x)

-- in `\u{..}` hexadecimal digits are the same number
pub num_hexnum : {σ : Settings} {s : List ℕ} {n : ℕ} → Num true s n → HexNum σ s n
num_hexnum (Num.one x) = HexNum.one x.0
num_hexnum (Num.more r x) = HexNum.more 0 (λ e. omega arith) (num_hexnum r) x.0
num_hexnum (Num.gap r x) = HexNum.more 1 (λ e. omega arith) (num_hexnum r) x.0

-- ---- literals

digits_split : {hex : Bool} {sign : Sign} {w u s : List ℕ} → Signed sign u → Digits hex s → w ≡ u ++ (prefix hex ++ s)
    → Split hex w sign u s [] []
digits_split g d e = record { signed = g; whole = d; after = Fraction.none; power = Exponent.none; is = rw append-nil e }

-- a literal has one radix, one sign and one number
pub literal_one : {hex hex' : Bool} {sign sign' : Sign} {w u u' s s' : List ℕ} {n n' : ℕ} → Signed sign u
    → Signed sign' u' → Num hex s n → Num hex' s' n' → w ≡ u ++ (prefix hex ++ s)
    → w ≡ u' ++ (prefix hex' ++ s')
    → (hex ≡ hex') × (sign ≡ sign') × (n ≡ n')
literal_one {hex} {hex'} {sign} {sign'} {w} {u} {u'} {s} {s'} {n} {n'} g g' r r' e e' =
    let a : Literal w (Integer sign hex (has (byte "_") w)) = as_literal g (num_digits r) e in
    let b : Literal w (Integer sign' hex' (has (byte "_") w)) = as_literal g' (num_digits r') e' in
    let q = one_kind a b in
    let h : hex ≡ hex' = cc in
    let x : Num hex s' n' = subst (λ (z : Bool). Num z s' n') (sym h) r' in
    let y : w ≡ u' ++ (prefix hex ++ s') = subst (λ (z : Bool). w ≡ u' ++ (prefix z ++ s')) (sym h) e' in
    let z : s ≡ s' = (split_one (digits_split g (num_digits r) e) (digits_split g' (num_digits x) y)).2 in
    (h, cc, num_one r (subst (λ (t : List ℕ). Num hex t n') (sym z) x))
  where
    as_literal : {hex : Bool} {sign : Sign} {w u s : List ℕ} → Signed sign u → Digits hex s → w ≡ u ++ (prefix hex ++ s)
        → Literal w (Integer sign hex (has (byte "_") w))
    as_literal {hex} {sign} g d e =
        subst (λ (z : List ℕ). Literal z (Integer sign hex (has (byte "_") z))) (sym e) (Literal.an_integer (IsInteger.integer g d))

-- ---- words

word_one : {N : ℕ} {sign : Sign} {n v v' : ℕ} → Word N sign n v → Word N sign n v' → v ≡ v'
word_one (Word.unsigned h) (Word.unsigned k) = refl
word_one (Word.plus h) (Word.plus k) = refl
word_one Word.minus_zero Word.minus_zero = refl
word_one Word.minus_zero (Word.minus p h e) = absurd (omega arith)
word_one (Word.minus p h e) Word.minus_zero = absurd (omega arith)
word_one (Word.minus p h e) (Word.minus q k f) = omega arith

same_word : {N : ℕ} {sign sign' : Sign} {n n' v : ℕ} → sign ≡ sign' → n ≡ n' → Word N sign n v
    → Word N sign' n' v
same_word {N} {sign} {n' = n'} {v = v} e q x =
    subst (λ (z : Sign). Word N z n' v) e (subst (λ (m : ℕ). Word N sign m v) q x)

half_least : (N : ℕ) → 2 ^ (N - 1) ≤ 2 ^ N
half_least N = pow_mono (omega arith)

-- a word has N bits
pub word_fits : {N : ℕ} {sign : Sign} {n v : ℕ} → Word N sign n v → v < 2 ^ N
word_fits (Word.unsigned h) = h
word_fits {N} (Word.plus h) = omega (arith, half_least N)
word_fits {N} Word.minus_zero = pow_pos N
word_fits {N} (Word.minus p h e) = omega arith

-- a sign and a number are some word of N bits, or none
word_or_none : (N : ℕ) (sign : Sign) (n : ℕ) → ((v : ℕ) × Word N sign n v) ⊎ ((v : ℕ) → Word N sign n v → ⊥)
word_or_none N Unsigned n = ⊎_elim (λ h. inl (n, Word.unsigned h)) (λ h. inr (λ v x. over x h)) (below n (2 ^ N))
  where
    over : {v : ℕ} → Word N Unsigned n v → 2 ^ N ≤ n → ⊥
    over (Word.unsigned k) h = omega arith
word_or_none N Plus n = ⊎_elim (λ h. inl (n, Word.plus h)) (λ h. inr (λ v x. over x h)) (below n (2 ^ (N - 1)))
  where
    over : {v : ℕ} → Word N Plus n v → 2 ^ (N - 1) ≤ n → ⊥
    over (Word.plus k) h = omega arith
word_or_none N Minus zero = inl (0, Word.minus_zero)
word_or_none N Minus (suc n) =
    ⊎_elim (λ h. inl (2 ^ N - suc n, Word.minus (omega arith) (omega arith) (omega (arith, half_least N))))
    (λ h. inr (λ v x. over x h))
    (below n (2 ^ (N - 1)))
  where
    over : {v : ℕ} → Word N Minus (suc n) v → 2 ^ (N - 1) ≤ n → ⊥
    over (Word.minus p k e) h = omega arith

-- ---- the call

pub integer_word_one : {N : ℕ} {w : List ℕ} {v v' : ℕ} → IntegerWord N w v → IntegerWord N w v' → v ≡ v'
integer_word_one (IntegerWord.literal g r e x) (IntegerWord.literal g' r' e' y) =
    let l = literal_one g g' r r' e e' in word_one (same_word l.1 l.2 x) y

worded_one : {N : ℕ} {w : List ℕ} {a b : IntegerValue} → Worded N w a → Worded N w b → a ≡ b
worded_one (Worded.word x) (Worded.word y) = ap value.Word (integer_word_one x y)
worded_one (Worded.word x) (Worded.out_of_range n) = absurd (n _ x)
worded_one (Worded.out_of_range n) (Worded.word y) = absurd (n _ y)
worded_one (Worded.out_of_range n) (Worded.out_of_range m) = refl

-- each integer has an answer
pub worded_some : {sign : Sign} {hex : Bool} {w : List ℕ} (N : ℕ) → IsInteger sign hex w → (a : IntegerValue) × Worded N w a
worded_some {sign} {hex} N (IsInteger.integer {u = u} {s = s} g d) =
    ⊎_elim
    (λ (x : (v : ℕ) × Word N sign (amount (radix hex) 0 s) v).
    (value.Word x.0, Worded.word (IntegerWord.literal g (num_some d) refl x.1)))
    (λ (f : (v : ℕ) → Word N sign (amount (radix hex) 0 s) v → ⊥). (value.OutOfRange, Worded.out_of_range (λ v x. no_word f x)))
    (word_or_none N sign (amount (radix hex) 0 s))
  where
    no_word : ((v : ℕ) → Word N sign (amount (radix hex) 0 s) v → ⊥) → {v : ℕ}
        → IntegerWord N (u ++ (prefix hex ++ s)) v → ⊥
    no_word f {v} (IntegerWord.literal g' r e x) =
        let l = literal_one g' g r (num_some d) e refl in f v (same_word l.1 l.2 x)

pub reads_word_one : {N : ℕ} {text : List ℕ} {token : Token} {a b : IntegerValue} → ReadsWord N text token a
    → ReadsWord N text token b → a ≡ b
reads_word_one (ReadsWord.missing x) (ReadsWord.missing y) = let z = missing_one x y in cc (z.0, z.1)
reads_word_one (ReadsWord.missing x) (ReadsWord.other_kind t n) = absurd (there_or_missing t x)
reads_word_one (ReadsWord.missing x) (ReadsWord.integer t e w) = absurd (there_or_missing t x)
reads_word_one (ReadsWord.other_kind t n) (ReadsWord.missing x) = absurd (there_or_missing t x)
reads_word_one (ReadsWord.other_kind t n) (ReadsWord.other_kind t' n') = refl
reads_word_one (ReadsWord.other_kind t n) (ReadsWord.integer {i = i} t' e w) = absurd (n i e)
reads_word_one (ReadsWord.integer t e w) (ReadsWord.missing x) = absurd (there_or_missing t x)
reads_word_one (ReadsWord.integer {i = i} t e w) (ReadsWord.other_kind t' n) = absurd (n i e)
reads_word_one (ReadsWord.integer t e w) (ReadsWord.integer t' e' w') = worded_one w w'
