-- From the readers' answers to those of the reader with a number. Assumes nothing.
use Prim.Native.Nat.{ℕ, zero, suc, ◌+◌}
use mathlib.Core.Path.{◌≡◌, refl, ap, ◌∙◌, subst}
use mathlib.Core.List.{List, [], ◌∷◌}
use mathlib.Core.Option.{Option, none, some}
use native.Mathlib.Omega.{arith}
use Rattle.wat.specs.declared.{Token.Token, Refused.Refused}
use Rattle.wat_values.specs.Answered.{Reading}
use Rattle.wat_values.specs.Answered as reading
use Rattle.wat_values.specs.declared.FloatPart.{FloatPart}
use Rattle.wat_values.specs.declared.FloatPart.TheVariants as the
use Rattle.wat_values.specs.Values.{Reader, Takes, Reads}
use Rattle.wat_values.specs.Reading.{Handed, Read}
use Rattle.read_token.specs.Here.{Misses}
use Rattle.read_call.specs.declared.Reader.{Reader as Named}
use Rattle.read_call.specs.declared.Reader.TheVariants as named
use Rattle.read_call.specs.ByNumber.{readers, nth, reader_of, ReadBy}

-- `src` leaves every buffer
pub src_any : {text b : List ℕ} {token : Token} {a : Reading} (buffer : List ℕ) → Read Reader.src text token [] a b
    → Read Reader.src text token buffer a buffer
src_any buffer (Read.missing x) = Read.missing x
src_any buffer (Read.other_kind t n) = absurd (n Takes.any)
src_any buffer (Read.reads t Reads.itself (Handed.too_short h)) = absurd (omega arith)
src_any buffer (Read.reads t Reads.itself (Handed.fits h)) = Read.reads t Reads.itself (Handed.fits (omega arith))

-- ---- the number of each

numbered : {n : ℕ} {reader : Reader} (m : ℕ) → n ≡ m → nth readers m ≡ some reader → nth readers n ≡ some reader
numbered m e q = ap (nth readers) e ∙ q

pub is_source : {n : ℕ} → n ≡ 0 → nth readers n ≡ some Reader.src
is_source e = numbered 0 e refl

pub is_string : {n : ℕ} → n ≡ 1 → nth readers n ≡ some Reader.string
is_string e = numbered 1 e refl

pub is_digits : {n : ℕ} → n ≡ 4 → nth readers n ≡ some Reader.digits
is_digits e = numbered 4 e refl

pub is_integral : {n : ℕ} → n ≡ 5 → nth readers n ≡ some (Reader.float the.Integral)
is_integral e = numbered 5 e refl

pub is_fraction : {n : ℕ} → n ≡ 6 → nth readers n ≡ some (Reader.float the.Fraction)
is_fraction e = numbered 6 e refl

pub is_exponent : {n : ℕ} → n ≡ 7 → nth readers n ≡ some (Reader.float the.Exponent)
is_exponent e = numbered 7 e refl

pub is_payload : {n : ℕ} → n ≡ 8 → nth readers n ≡ some (Reader.float the.Payload)
is_payload e = numbered 8 e refl

-- P, and n is none of the numbers, from m on, that these readers have
abbrev Apart : List (Option Reader) → ℕ → ℕ → Type 0 → Type 0
Apart [] m n P = P
Apart (none ∷ rs) m n P = Apart rs (suc m) n P
Apart (some r ∷ rs) m n P = Apart rs (suc m) n (P × (n ≡ m → ⊥))

before : (rs : List (Option Reader)) (m n : ℕ) (P : Type 0) → Apart rs m n P → P
before [] m n P a = a
before (none ∷ rs) m n P a = before rs (suc m) n P a
before (some r ∷ rs) m n P a = (before rs (suc m) n (P × (n ≡ m → ⊥)) a).0

nth_none : (rs : List (Option Reader)) (m n k : ℕ) (P : Type 0) → n ≡ m + k → Apart rs m n P → nth rs k ≡ none
nth_none [] m n k P e a = refl
nth_none (none ∷ rs) m n zero P e a = refl
nth_none (none ∷ rs) m n (suc k) P e a = nth_none rs (suc m) n k P (omega arith) a
nth_none (some r ∷ rs) m n zero P e a = absurd ((before rs (suc m) n (P × (n ≡ m → ⊥)) a).1 (omega arith))
nth_none (some r ∷ rs) m n (suc k) P e a = nth_none rs (suc m) n k (P × (n ≡ m → ⊥)) (omega arith) a

pub nobody : (n : ℕ) → Apart readers 0 n (Unit {0}) → nth readers n ≡ none
nobody n a = nth_none readers 0 n n (Unit {0}) (omega arith) a

pub ruleset numbers =
    (is_source, is_string, is_digits, is_integral, is_fraction, is_exponent, is_payload, nobody)

-- ---- the answer of each

module _ {n : ℕ} {text buffer : List ℕ} {token : Token} {a : Reading} {b : List ℕ} {k : Named}
    (e : nth readers n ≡ some (reader_of k)) where
  pub by_source : k ≡ named.Src → Read Reader.src text token [] a b → ReadBy n text token buffer a buffer
  by_source q r = ReadBy.by (e ∙ ap (λ (k : Named). some (reader_of k)) q) (src_any buffer r)

  pub by_string : k ≡ named.String → Read Reader.string text token buffer a b → ReadBy n text token buffer a b
  by_string q r = ReadBy.by (e ∙ ap (λ (k : Named). some (reader_of k)) q) r

  pub by_digits : k ≡ named.Digits → Read Reader.digits text token buffer a b → ReadBy n text token buffer a b
  by_digits q r = ReadBy.by (e ∙ ap (λ (k : Named). some (reader_of k)) q) r

  pub by_float : {p : FloatPart} → k ≡ named.Float p → Read (Reader.float p) text token buffer a b → ReadBy n text token buffer a b
  by_float q r = ReadBy.by (e ∙ ap (λ (k : Named). some (reader_of k)) q) r

pub by_none : {n : ℕ} {text buffer : List ℕ} {token : Token} {r : Refused} → nth readers n ≡ none → Misses text token r
    → ReadBy n text token buffer (reading.Refused r.refusal r.place) buffer
by_none e m = ReadBy.missing e m

pub ruleset readers_by = (by_source, by_string, by_digits, by_float, by_none, ReadBy.nobody)
