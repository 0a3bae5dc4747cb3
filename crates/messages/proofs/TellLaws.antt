-- The model's answer is the one that `Tells` asks, of an error by its values and of a refusal by its code. Assumes nothing.
use Prim.Native.Nat.{ℕ, ◌^◌, ◌<◌}
use mathlib.Core.Path.{◌≡◌, refl, sym, ap, subst, ◌∙◌}
use mathlib.Core.Bool.{Bool, true, false, ◌&&◌, not}
use mathlib.Core.List.{List, [], ◌∷◌}
use native.Mathlib.Omega.{arith}
use lib.Dec.{eqb, ltb}
use lib.ListN.{length, get_or}
use borrow.Author.Tests.{ltb-true, ltb-false, eqb-false}
use Rattle.wat.specs.declared.{LexError.LexError, Refusal.Refusal}
use Rattle.wat.specs.declared.LexError.TheVariants as error
use Rattle.wat.specs.declared.Refusal.TheVariants as refusal
use Rattle.wat.specs.{Bytes.between, Cases.error_number, Cases.number, Utf8Model.pick}
use Rattle.wat.proofs.Basics.{between_in, between_true, never}
use Rattle.codes.specs.declared.Code.{Code}
use Rattle.codes.specs.Coded.{Coded}
use Rattle.std.specs.Prelude.{Result}
use Rattle.messages.specs.Messages.{Displays, Tells}
use Rattle.messages.specs.MessageModel.{known, tellable, fitted, answer}
use Rattle.messages.proofs.MessageLaws.{Carries, values, displays, has_message}
use Rattle.messages.proofs.AnswerLaws.{unknown, untold, fit}

-- an error's number, and its values, 0 for each that it lacks
abbrev pub number_of : LexError → ℕ
number_of e = (error_number e).0

abbrev first_of : LexError → ℕ
first_of e = get_or (error_number e).1 0 0

abbrev second_of : LexError → ℕ
second_of e = get_or (error_number e).1 1 0

-- ---- of an error

fits :
    {e : LexError} {m : List ℕ} (buffer : List ℕ) → Displays e m
    → Tells (refusal.Lexical e) buffer (fitted m buffer).0 (fitted m buffer).1
unfolding fitted
fits {e} {m} buffer d = go (ltb (length buffer) (length m)) refl
  where
    go : (x : Bool) → ltb (length buffer) (length m) ≡ x → Tells (refusal.Lexical e) buffer (fitted m buffer).0 (fitted m buffer).1
    go true p = rw (p, fitted) (Tells.too_short refl d (ltb-true (length buffer) (length m) p))
    go false p = rw (p, fitted) (Tells.told refl d (ltb-false (length buffer) (length m) p))

-- the same answer, where `Tells` asks its equal
pub answered : (r : Refusal) (buffer : List ℕ) {x y : Result ℕ Refusal × List ℕ} → x ≡ y → Tells r buffer y.0 y.1
    → Tells r buffer x.0 x.1
answered r buffer q t = subst (λ (z : Result ℕ Refusal × List ℕ). Tells r buffer z.0 z.1) (sym q) t

pub tells :
    (e : LexError) (a b : ℕ) (buffer : List ℕ) → Carries (values e) a b
    → Tells (refusal.Lexical e) buffer (answer (number_of e) a b buffer).0 (answer (number_of e) a b buffer).1
tells e a b buffer q = go (tellable (number_of e) a b) refl
  where
    none : tellable (number_of e) a b ≡ false → (f : LexError) (m : List ℕ) → refusal.Lexical e ≡ refusal.Lexical f
        → Displays f m → ⊥
    none t f m p d = let z : f ≡ e = cc in never (has_message a b (rw z at d) q) t

    go :
        (x : Bool) → tellable (number_of e) a b ≡ x
        → Tells (refusal.Lexical e) buffer (answer (number_of e) a b buffer).0 (answer (number_of e) a b buffer).1
    go true t = answered (refusal.Lexical e) buffer (sym (fit (number_of e) a b buffer t)) (fits buffer (displays e a b q t))
    go false t = answered (refusal.Lexical e) buffer (sym (untold (number_of e) a b buffer t)) (Tells.none (none t))

-- the values that count: those of 22 do not
pub carries :
    (e : LexError) (a b : ℕ) → ((number_of e ≡ 22 → ⊥) → Carries (error_number e).1 a b) → Carries (values e) a b
carries e a b f = go (eqb (number_of e) 22) refl
  where
    go : (t : Bool) → eqb (number_of e) 22 ≡ t → Carries (pick t [] (error_number e).1) a b
    go true q = tt
    go false q = f (eqb-false (number_of e) 22 q)

-- ---- of a refusal

-- the values as two numbers
own : (vs : List ℕ) → Carries vs (get_or vs 0 0) (get_or vs 1 0)
own [] = tt
own (c ∷ []) = refl
own (c ∷ d ∷ vs) = (refl, refl)

-- the numbers of errors, those that have a message and 25
unfoldable pub errors : ℕ → Bool
errors n = (between 10 25 n) && (not (eqb n 15))

has_number : (e : LexError) → errors (number_of e) ≡ true
unfolding between errors
has_number error.DanglingBlockComment = refl
has_number (error.Unexpected c) = refl
has_number (error.InvalidStringElement c) = refl
has_number (error.InvalidStringEscape c) = refl
has_number (error.InvalidHexDigit c) = refl
has_number (error.Expected w c) = refl
has_number error.UnexpectedEof = refl
has_number error.NumberTooBig = refl
has_number (error.InvalidUnicodeValue n) = refl
has_number error.LoneUnderscore = refl
has_number (error.ConfusingUnicode c) = refl
has_number (error.InvalidUtf8Id v e) = refl
has_number error.EmptyId = refl
has_number error.EmptyAnnotation = refl
has_number error.DoubleUnderscore = refl

pub no_number : {n : ℕ} → errors n ≡ false → (e : LexError) → number_of e ≡ n → ⊥
no_number k e q = never (has_number e) (ap errors q ∙ k)

pub no_error : (n : ℕ) → errors n ≡ false → known n ≡ false
unfolding known errors
no_error n e = go (between 10 24 n) refl
  where
    go : (b : Bool) → between 10 24 n ≡ b → known n ≡ false
    go true h =
        let i = between_true 10 24 n h in
        let f : not (eqb n 15) ≡ false = rw (between_in 10 25 n (omega arith) (omega arith), errors) at e in
        rw (h, f)
    go false h = rw h

two_unknown : errors 2 ≡ false
unfolding between errors
two_unknown = refl

-- a and b are the values of a code, where they are of 32 bits
module _ {c : Code} {a b : ℕ} (p : c.first < 2 ^ 32 → a ≡ c.first) (q : c.second < 2 ^ 32 → b ≡ c.second)
    (buffer : List ℕ) where
  shows : (e : LexError) → Coded (error_number e) c → Carries (values e) a b
  shows e d = carries e a b λ not22.
      let w = d.narrow (no_number two_unknown e) not22 in
      let z : (a ≡ first_of e) × (b ≡ second_of e) = (p w.0 ∙ d.one, q w.1 ∙ d.two) in
      rw (z.0, z.1) (own (error_number e).1)

  coded :
      {left : List ℕ} {m : Result ℕ Refusal} {n : ℕ × List ℕ} → Coded n c → (m, left) ≡ answer c.number a b buffer
      → (m, left) ≡ answer n.0 a b buffer
  coded d z = z ∙ ap (λ (n : ℕ). answer n a b buffer) d.numbered

  other :
      {left : List ℕ} {m : Result ℕ Refusal} (r : Refusal) → errors (number r).0 ≡ false → Coded (number r) c
      → (m, left) ≡ answer c.number a b buffer → Tells r buffer m left
  other r k d z =
      answered
      r
      buffer
      (coded d z ∙ sym (untold (number r).0 a b buffer (sym (unknown (number r).0 a b (no_error (number r).0 k)))))
      (Tells.none (λ e t x y. no_number k e (sym (ap (λ (s : Refusal). (number s).0) x))))

  pub tells_refusal :
      {left : List ℕ} {m : Result ℕ Refusal} (r : Refusal) → Coded (number r) c → (m, left) ≡ answer c.number a b buffer
      → Tells r buffer m left
  unfolding between errors
  tells_refusal refusal.TooLong d z = other refusal.TooLong refl d z
  tells_refusal (refusal.NotUtf8 v e) d z = other (refusal.NotUtf8 v e) refl d z
  tells_refusal refusal.PastEnd d z = other refusal.PastEnd refl d z
  tells_refusal refusal.InsideCharacter d z = other refusal.InsideCharacter refl d z
  tells_refusal (refusal.Lexical e) d z =
      answered (refusal.Lexical e) buffer (coded d z) (tells e a b buffer (shows e d))
  tells_refusal refusal.NotThatToken d z = other refusal.NotThatToken refl d z
  tells_refusal refusal.NotThatKind d z = other refusal.NotThatKind refl d z
  tells_refusal refusal.BufferTooShort d z = other refusal.BufferTooShort refl d z
  tells_refusal refusal.NoMessage d z = other refusal.NoMessage refl d z
