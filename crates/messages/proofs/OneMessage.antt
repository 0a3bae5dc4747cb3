-- The message call has one answer, and one buffer afterwards, for every refusal and buffer. Assumes nothing.
use Prim.Native.Nat.{ℕ}
use mathlib.Core.Path.{◌≡◌, refl, ap}
use mathlib.Core.List.{List, Memᴰ}
use mathlib.Core.Option.{some}
use native.Mathlib.Omega.{arith}
use lib.ListN.{length}
use Rattle.wat.specs.declared.{LexError.LexError, Refusal.Refusal}
use Rattle.std.specs.Prelude.{Result}
use Rattle.wat.specs.declared.Refusal.TheVariants.{Lexical}
use Rattle.messages.specs.Messages.{Hexed, named, Shown, Displays, Tells}
use Rattle.wat.specs.StringModel.{letter_of}
use Rattle.wat.proofs.Basics.{AllPairs, pairs_listed, never}

hexes_one : {n m : ℕ} {s t : List ℕ} → Hexed n s → Hexed m t → n ≡ m → s ≡ t
hexes_one (Hexed.one h) (Hexed.one h') e = cc
hexes_one (Hexed.one h) (Hexed.more p r h') e = absurd (omega arith)
hexes_one (Hexed.more p r h) (Hexed.one h') e = absurd (omega arith)
hexes_one (Hexed.more {n = n} {d = d} p r h) (Hexed.more {n = m} {d = c} p' r' h') e =
    let q : n ≡ m = omega arith in
    let k : d ≡ c = omega arith in
    let i = hexes_one r r' q in
    cc

-- a number is written in one way
pub hexed_one : {n : ℕ} {s t : List ℕ} → Hexed n s → Hexed n t → s ≡ t
hexed_one a b = hexes_one a b refl

-- a character has at most one letter
lettered : AllPairs (λ c l. letter_of named c ≡ some l) named
unfolding named
lettered = (refl, (refl, (refl, (refl, (refl, tt)))))

letter_one : {c l m : ℕ} → Memᴰ (c, l) named → Memᴰ (c, m) named → l ≡ m
letter_one {c} {l} {m} p q =
    let a : letter_of named c ≡ some l = pairs_listed (λ c l. letter_of named c ≡ some l) named lettered p in
    let b : letter_of named c ≡ some m = pairs_listed (λ c l. letter_of named c ≡ some l) named lettered q in
    cc

pub shown_one : {c : ℕ} {s t : List ℕ} → Shown c s → Shown c t → s ≡ t
shown_one (Shown.letter m) (Shown.letter m') = let z = letter_one m m' in cc
shown_one (Shown.letter m) (Shown.itself h n) = absurd (n _ m)
shown_one (Shown.letter m) (Shown.number i h n x) = absurd (n _ m)
shown_one (Shown.itself h n) (Shown.letter m) = absurd (n _ m)
shown_one (Shown.itself h n) (Shown.itself h' n') = refl
shown_one (Shown.itself h n) (Shown.number i h' n' x) = absurd (never h h')
shown_one (Shown.number i h n x) (Shown.letter m) = absurd (n _ m)
shown_one (Shown.number i h n x) (Shown.itself h' n') = absurd (never h' h)
shown_one (Shown.number i h n x) (Shown.number i' h' n' x') = let z = hexed_one x x' in cc

pub displays_one : {e : LexError} {s t : List ℕ} → Displays e s → Displays e t → s ≡ t
displays_one Displays.dangling Displays.dangling = refl
displays_one (Displays.unexpected x) (Displays.unexpected y) = let z = shown_one x y in cc
displays_one (Displays.element x) (Displays.element y) = let z = shown_one x y in cc
displays_one (Displays.escape x) (Displays.escape y) = let z = shown_one x y in cc
displays_one (Displays.digit x) (Displays.digit y) = let z = shown_one x y in cc
displays_one (Displays.expected x x') (Displays.expected y y') = let z = shown_one x y in let z' = shown_one x' y' in cc
displays_one Displays.end Displays.end = refl
displays_one Displays.big Displays.big = refl
displays_one (Displays.value x) (Displays.value y) = let z = hexed_one x y in cc
displays_one Displays.underscore Displays.underscore = refl
displays_one (Displays.hidden c x) (Displays.hidden c' y) = let z = shown_one x y in cc
displays_one Displays.id Displays.id = refl
displays_one Displays.empty_id Displays.empty_id = refl
displays_one Displays.empty_annotation Displays.empty_annotation = refl

-- the same error's message, by what the call was asked for
asked_one : {r : Refusal} {e e' : LexError} {m m' : List ℕ} → r ≡ Lexical e → r ≡ Lexical e' → Displays e m
    → Displays e' m' → m ≡ m'
asked_one {e = e} {e' = e'} p q d d' = let z : e ≡ e' = cc in displays_one (rw z at d) d'

pub tells_one : {r : Refusal} {buffer b b' : List ℕ} {a a' : Result ℕ Refusal} → Tells r buffer a b → Tells r buffer a' b'
    → (a ≡ a') × (b ≡ b')
tells_one (Tells.none n) (Tells.none n') = (refl, refl)
tells_one (Tells.none n) (Tells.too_short {e = e} {m = m} p d h) = absurd (n e m p d)
tells_one (Tells.none n) (Tells.told {e = e} {m = m} p d h) = absurd (n e m p d)
tells_one (Tells.too_short {e = e} {m = m} p d h) (Tells.none n) = absurd (n e m p d)
tells_one (Tells.too_short p d h) (Tells.too_short p' d' h') = (refl, refl)
tells_one (Tells.too_short p d h) (Tells.told p' d' h') = absurd (omega (arith, ap length (asked_one p p' d d')))
tells_one (Tells.told {e = e} {m = m} p d h) (Tells.none n) = absurd (n e m p d)
tells_one (Tells.told p d h) (Tells.too_short p' d' h') = absurd (omega (arith, ap length (asked_one p p' d d')))
tells_one (Tells.told p d h) (Tells.told p' d' h') = let z = asked_one p p' d d' in (cc, cc)
