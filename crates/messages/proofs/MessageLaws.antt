-- Which errors have a message, and how long it is. Assumes nothing.
use Prim.Native.Nat.{ℕ, ◌+◌, ◌^◌, ◌≤◌, ◌<◌}
use mathlib.Core.Path.{◌≡◌, refl, ap}
use mathlib.Core.Logic.{⊎_elim}
use mathlib.Core.Bool.{Bool, true, false, ◌&&◌}
use mathlib.Core.List.{List, [], ◌∷◌, ◌++◌}
use native.Mathlib.Omega.{arith}
use lib.Dec.{eqb}
use lib.ListN.{length, length-append}
use Rattle.wat.specs.declared.LexError.{LexError}
use Rattle.wat.specs.declared.LexError.TheVariants.{DanglingBlockComment, Unexpected, InvalidStringElement, InvalidStringEscape}
use Rattle.wat.specs.declared.LexError.TheVariants.{InvalidHexDigit, Expected, UnexpectedEof, NumberTooBig, InvalidUnicodeValue}
use Rattle.wat.specs.declared.LexError.TheVariants.{LoneUnderscore, ConfusingUnicode, InvalidUtf8Id, EmptyId, EmptyAnnotation}
use Rattle.wat.specs.declared.LexError.TheVariants.{DoubleUnderscore}
use Rattle.wat.specs.{Bytes.bytes, Bytes.between, Bytes.has, Chars.is_scalar, Chars.confusing, Cases.error_number}
use Rattle.wat.specs.Utf8Model.{pick}
use Rattle.messages.specs.Messages.{named, Shown, Displays}
use Rattle.wat.proofs.Basics.{never, has_every}
use Rattle.wat.proofs.ScalarValues.{scalar_low}
use Rattle.wat.proofs.Scalars.{scalar_split}
use Rattle.messages.specs.Spelled.{hex_by, hex, shown, lead}
use Rattle.messages.proofs.HexLaws.{hexed, hexed_fits}
use Rattle.messages.proofs.CharLaws.{shown_right, shown_scalar, shown_is, shown_fits}
use Rattle.messages.specs.MessageModel.{known, showable, tellable, rest, message}

-- ---- which errors have a message

pub and_left : (a b : Bool) → a && b ≡ true → a ≡ true
and_left true b e = refl
and_left false b e = e

pub and_right : (a b : Bool) → a && b ≡ true → b ≡ true
and_right true b e = e
and_right false b e = absurd (never e refl)

confusing_bounds : (c : ℕ) → confusing c ≡ true → (0x202A ≤ c) × (c ≤ 0x206C)
unfolding confusing
confusing_bounds c e = has_every (λ y. (0x202A ≤ y) × (y ≤ 0x206C)) _ c (omega arith) e

confusing_scalar : (c : ℕ) → confusing c ≡ true → is_scalar c ≡ true
confusing_scalar c e = scalar_low c (omega (arith, confusing_bounds c e))

-- a and b are the values of a case, as far as it has any
abbrev pub Carries : List ℕ → ℕ → ℕ → Type 0
Carries [] a b = Unit {0}
Carries (c ∷ []) a b = c ≡ a
Carries (c ∷ d ∷ vs) a b = (c ≡ a) × (d ≡ b)

-- the values that its message shows: all but the lengths of 22
abbrev pub values : LexError → List ℕ
values e = pick (eqb (error_number e).0 22) [] (error_number e).1

-- the message of an error that has one
pub displays :
    (e : LexError) (a b : ℕ) → Carries (values e) a b → tellable (error_number e).0 a b ≡ true
    → Displays e (message (error_number e).0 a b)
unfolding between known showable tellable message lead rest
displays DanglingBlockComment a b q t = Displays.dangling
displays (Unexpected c) a b q t = rw q (Displays.unexpected (shown_right a t))
displays (InvalidStringElement c) a b q t = rw q (Displays.element (shown_right a t))
displays (InvalidStringEscape c) a b q t = rw q (Displays.escape (shown_right a t))
displays (InvalidHexDigit c) a b q t = rw q (Displays.digit (shown_right a t))
displays (Expected w c) a b q t =
    let x = shown_right a (and_left (is_scalar a) (is_scalar b) t) in
    let y = shown_right b (and_right (is_scalar a) (is_scalar b) t) in
    rw (q.0, q.1) (Displays.expected x y)
displays UnexpectedEof a b q t = Displays.end
displays NumberTooBig a b q t = Displays.big
displays (InvalidUnicodeValue n) a b q t = rw q (Displays.value (hexed a))
displays LoneUnderscore a b q t = Displays.underscore
displays (ConfusingUnicode c) a b q t = rw q (Displays.hidden t (shown_right a (confusing_scalar a t)))
displays (InvalidUtf8Id v e) a b q t = Displays.id
displays EmptyId a b q t = Displays.empty_id
displays EmptyAnnotation a b q t = Displays.empty_annotation
displays DoubleUnderscore a b q t = absurd (never t refl)

-- and no other has one
pub has_message :
    {e : LexError} {m : List ℕ} (a b : ℕ) → Displays e m → Carries (values e) a b
    → tellable (error_number e).0 a b ≡ true
unfolding between known showable tellable
has_message a b Displays.dangling q = refl
has_message a b (Displays.unexpected x) q = rw q at (shown_scalar x)
has_message a b (Displays.element x) q = rw q at (shown_scalar x)
has_message a b (Displays.escape x) q = rw q at (shown_scalar x)
has_message a b (Displays.digit x) q = rw q at (shown_scalar x)
has_message a b (Displays.expected x y) q = rw (rw q.0 at (shown_scalar x), rw q.1 at (shown_scalar y))
has_message a b Displays.end q = refl
has_message a b Displays.big q = refl
has_message a b (Displays.value x) q = refl
has_message a b Displays.underscore q = refl
has_message a b (Displays.hidden c x) q = rw q at c
has_message a b Displays.id q = refl
has_message a b Displays.empty_id q = refl
has_message a b Displays.empty_annotation q = refl

-- ---- how long a message is

scalar_bound : {c : ℕ} {s : List ℕ} → Shown c s → c < 16 ^ 6
scalar_bound {c} x = ⊎_elim (λ h. omega arith) (λ h. omega (arith, h.1)) (scalar_split c (shown_scalar x))

shown_length : {c : ℕ} {s : List ℕ} → Shown c s → length s ≤ 10
shown_length {c} x = omega (arith, ap length (shown_is x), shown_fits c 5 (scalar_bound x))

-- the numbers of an error are of 32 bits
abbrev pub In32Bits : LexError → Type 0
In32Bits e = (n : ℕ) → e ≡ InvalidUnicodeValue n → n < 2 ^ 32

quoted_length : (t s : List ℕ) → length (t ++ (s ++ bytes "'")) ≡ length t + length s + 1
quoted_length t s = omega (arith, length-append t (s ++ bytes "'"), length-append s (bytes "'"))

pub longest : {e : LexError} {m : List ℕ} → In32Bits e → Displays e m → length m ≤ 51
longest w Displays.dangling = omega arith
longest w (Displays.unexpected {s = s} x) = omega (arith, quoted_length (bytes "unexpected character '") s, shown_length x)
longest w (Displays.element {s = s} x) = omega (arith, quoted_length (bytes "invalid character in string '") s, shown_length x)
longest w (Displays.escape {s = s} x) = omega (arith, quoted_length (bytes "invalid string escape '") s, shown_length x)
longest w (Displays.digit {s = s} x) = omega (arith, quoted_length (bytes "invalid hex digit '") s, shown_length x)
longest w (Displays.expected {s = s} {t = t} x y) =
    omega (
      arith,
      length-append s (bytes "' but found '" ++ (t ++ bytes "'")),
      quoted_length (bytes "' but found '") t,
      shown_length x,
      shown_length y,
    )
longest w Displays.end = omega arith
longest w Displays.big = omega arith
longest w (Displays.value {n = n} x) = omega (arith, hexed_fits x 7 (w n refl))
longest w Displays.underscore = omega arith
longest w (Displays.hidden {c = c} {s = s} h x) =
    omega (
      arith,
      quoted_length (bytes "likely-confusing unicode character found '") s,
      ap length (shown_is x),
      shown_fits c 3 (omega (arith, confusing_bounds c h)),
    )
longest w Displays.id = omega arith
longest w Displays.empty_id = omega arith
longest w Displays.empty_annotation = omega arith

-- one has as many
pub longest_told : (m : List ℕ) × Displays (ConfusingUnicode 0x202A) m × (length m ≡ 51)
unfolding confusing has is_scalar shown named between hex hex_by
longest_told = (_, Displays.hidden refl (shown_right 0x202A refl), refl)

-- 64 bytes hold every message
pub message_fits : {e : LexError} {m : List ℕ} → In32Bits e → Displays e m → length m ≤ 64
message_fits w d = let l = longest w d in omega arith
