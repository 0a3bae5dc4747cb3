-- The model's answer by number and values is the one that `TellsBy` asks, and there is no other. Assumes nothing.
use Prim.Native.Nat.{ℕ, suc, ◌+◌, ◌^◌, ◌≤◌, ◌<◌}
use mathlib.Core.Path.{◌≡◌, refl, sym, ap, subst, ◌∙◌}
use mathlib.Core.Logic.{⊎_elim}
use mathlib.Core.Bool.{Bool, true, false, not}
use mathlib.Core.List.{List, [], ◌∷◌}
use native.Mathlib.Omega.{arith}
use lib.Dec.{eqb}
use lib.ListN.{length, get_or, take}
use borrow.Author.Tests.{eq-eqb}
use Rattle.wat.specs.declared.{LexError.LexError, Refusal.Refusal}
use Rattle.wat.specs.declared.LexError.TheVariants as error
use Rattle.wat.specs.declared.Refusal.TheVariants as refusal
use Rattle.wat.specs.{Bytes.between, Cases.error_number}
use Rattle.wat.proofs.Basics.{between_true, below, never}
use Rattle.std.specs.Prelude.{Result}
use Rattle.messages.specs.Messages.{Tells}
use Rattle.messages.specs.ByNumber.{bits, Spelled, TellsBy}
use Rattle.messages.specs.MessageModel.{wide, answer}
use Rattle.messages.proofs.OneMessage.{tells_one}
use Rattle.messages.proofs.MessageLaws.{and_left, and_right, Carries}
use Rattle.messages.proofs.AnswerLaws.{unknown, untold}
use Rattle.messages.proofs.TellLaws.{answered, tells, carries, errors, no_number, no_error}
use Rattle.messages.proofs.WidthLaws.{Room, narrow, room, not_wide}

-- an error of a number, with the values a and b; and those of the numbers from n on
abbrev Named : ℕ → ℕ → ℕ → LexError → Type 0
Named a b n e = error_number e ≡ (n, take (length (error_number e).1) (a ∷ b ∷ []))

abbrev Rows : ℕ → ℕ → ℕ → List LexError → Type 0
Rows a b n [] = Unit {0}
Rows a b n (e ∷ es) = Named a b n e × Rows a b (suc n) es

row :
    (a b n : ℕ) (es : List LexError) → Rows a b n es → (m : ℕ) → n ≤ m → m < n + length es
    → (e : LexError) × Named a b m e
row a b n [] r m h k = absurd (omega arith)
row a b n (e ∷ es) r m h k =
    ⊎_elim
    (λ l. let q : m ≡ n = omega arith in (e, rw q r.0))
    (λ l. row a b (suc n) es r.1 m l (omega arith))
    (below m (suc n))

-- 10 to 14, and 16 to 25
abbrev low : ℕ → List LexError
low a =
    error.DanglingBlockComment ∷ error.Unexpected a ∷ error.InvalidStringElement a ∷ error.InvalidStringEscape a
    ∷ error.InvalidHexDigit a ∷ []

abbrev high : ℕ → ℕ → List LexError
high a b =
    error.Expected a b ∷ error.UnexpectedEof ∷ error.NumberTooBig ∷ error.InvalidUnicodeValue a ∷ error.LoneUnderscore
    ∷ error.ConfusingUnicode a ∷ error.InvalidUtf8Id a b ∷ error.EmptyId ∷ error.EmptyAnnotation
    ∷ error.DoubleUnderscore ∷ []

lows : (a b : ℕ) → Rows a b 10 (low a)
lows a b = (refl, (refl, (refl, (refl, (refl, tt)))))

highs : (a b : ℕ) → Rows a b 16 (high a b)
highs a b = (refl, (refl, (refl, (refl, (refl, (refl, (refl, (refl, (refl, (refl, tt))))))))))

named : (n a b : ℕ) → errors n ≡ true → (e : LexError) × Named a b n e
unfolding errors
named n a b k =
    let i = between_true 10 25 n (and_left (between 10 25 n) (not (eqb n 15)) k) in
    let not15 : n ≡ 15 → ⊥ = λ q. never (and_right (between 10 25 n) (not (eqb n 15)) k) (ap not (eq-eqb n 15 q)) in
    ⊎_elim
    (λ l. row a b 10 (low a) (lows a b) n (omega arith) (omega arith))
    (λ l. row a b 16 (high a b) (highs a b) n (omega arith) (omega arith))
    (below n 15)

-- words that pass the test of their width spell an error
spelled : (n a b : ℕ) → errors n ≡ true → wide n a b ≡ false → a < 2 ^ 64 → b < 2 ^ 64 → (e : LexError) × Spelled n a b e
spelled n a b k w h l =
    let r = named n a b k in
    let e = r.0 in
    let numbered : (error_number e).0 ≡ n = ap (λ (c : ℕ × List ℕ). c.0) r.1 in
    let values = ap (λ (c : ℕ × List ℕ). c.1) r.1 in
    let m : Room n a b (length (error_number e).1) = rw numbered at (room e (rw numbered w) h l) in
    (e, record { numbered = numbered; values = values; first = m.0; second = m.1 })

-- and no others do
pub unspelled : (n a b : ℕ) → wide n a b ≡ true → (e : LexError) → Spelled n a b e → ⊥
unspelled n a b w e s =
    let r : Room (error_number e).0 a b (length (error_number e).1) = rw s.numbered (s.first, s.second) in
    never w (rw s.numbered at (not_wide e r))

-- a and b, as far as an error carries them
taken : (vs : List ℕ) {a b c d : ℕ} → vs ≡ take (length vs) (a ∷ b ∷ []) → (0 < length vs → c ≡ a)
    → (1 < length vs → d ≡ b) → Carries vs c d
taken [] e f g = tt
taken (v ∷ []) e f g = ap (λ (l : List ℕ). get_or l 0 0) e ∙ sym (f (omega arith))
taken (v ∷ w ∷ vs) e f g =
    (ap (λ (l : List ℕ). get_or l 0 0) e ∙ sym (f (omega arith)), ap (λ (l : List ℕ). get_or l 1 0) e ∙ sym (g (omega arith)))

-- the model's answer at c and d, which are a and b where those are of 32 bits
tells_spelled :
    (n a b c d : ℕ) (buffer : List ℕ) {e : LexError} → (a < 2 ^ 32 → c ≡ a) → (b < 2 ^ 32 → d ≡ b) → Spelled n a b e
    → Tells (refusal.Lexical e) buffer (answer n c d buffer).0 (answer n c d buffer).1
tells_spelled n a b c d buffer {e} f g s =
    answered
    (refusal.Lexical e)
    buffer
    (ap (λ (k : ℕ). answer k c d buffer) (sym s.numbered))
    (tells e c d buffer (carries e c d λ not22.
    let r : bits n ≡ 32 = narrow n (λ q. not22 (s.numbered ∙ q)) in
    taken (error_number e).1 s.values (λ h. f (rw r at (s.first h))) (λ h. g (rw r at (s.second h)))))

pub tells_by :
    (n a b c d : ℕ) {buffer left : List ℕ} {m : Result ℕ Refusal} → wide n a b ≡ false → a < 2 ^ 64 → b < 2 ^ 64
    → (a < 2 ^ 32 → c ≡ a) → (b < 2 ^ 32 → d ≡ b) → (m, left) ≡ answer n c d buffer
    → TellsBy n a b buffer m left
tells_by n a b c d {buffer} {left} {m} w h l f g z = go (errors n) refl
  where
    go : (x : Bool) → errors n ≡ x → TellsBy n a b buffer m left
    go true k =
        let s = (spelled n a b k w h l).1 in TellsBy.error s (answered _ buffer z (tells_spelled n a b c d buffer f g s))
    go false k =
        subst
        (λ (x : Result ℕ Refusal × List ℕ). TellsBy n a b buffer x.0 x.1)
        (untold n c d buffer (sym (unknown n c d (no_error n k))) ∙ sym z)
        (TellsBy.none (λ e s. no_number k e s.numbered))

-- ---- no other answer

pub tells_by_one :
    {n a b : ℕ} {buffer c c' : List ℕ} {m m' : Result ℕ Refusal} → TellsBy n a b buffer m c → TellsBy n a b buffer m' c'
    → (m ≡ m') × (c ≡ c')
tells_by_one {n} {a} {b} {buffer} (TellsBy.error s t) (TellsBy.error s' t') =
    let p = tells_one t (tells_spelled n a b a b buffer (λ h. refl) (λ h. refl) s) in
    let q = tells_one t' (tells_spelled n a b a b buffer (λ h. refl) (λ h. refl) s') in
    (p.0 ∙ sym q.0, p.1 ∙ sym q.1)
tells_by_one (TellsBy.error s t) (TellsBy.none x) = absurd (x _ s)
tells_by_one (TellsBy.none x) (TellsBy.error s t) = absurd (x _ s)
tells_by_one (TellsBy.none x) (TellsBy.none y) = (refl, refl)
