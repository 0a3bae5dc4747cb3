-- A character as a message shows it: `shown` computes what `Shown` asks. Assumes nothing.
use Prim.Native.Nat.{ℕ, suc, ◌+◌, ◌^◌, ◌≤◌, ◌<◌}
use mathlib.Core.Path.{◌≡◌, refl, sym, ◌∙◌}
use mathlib.Core.Bool.{Bool, true, false}
use mathlib.Core.List.{List, [], ◌∷◌, ◌++◌, Memᴰ}
use mathlib.Core.Option.{Option, none, some}
use native.Mathlib.Omega.{arith}
use lib.Dec.{eqb}
use lib.ListN.{length, length-append}
use borrow.Author.Tests.{eqb-true, ne_eqb}
use Rattle.wat.specs.{Bytes.bytes, Bytes.byte, Bytes.between, Chars.is_scalar}
use Rattle.wat.specs.Utf8Model.{pick}
use Rattle.wat.specs.StringModel.{letter_of}
use Rattle.messages.specs.Messages.{named, Shown}
use Rattle.wat.proofs.Basics.{differ, between_in, between_under, between_over, between_true, AllPairs, pairs_listed}
use Rattle.wat.proofs.ScalarValues.{scalar_low}
use Rattle.messages.proofs.OneMessage.{shown_one}
use Rattle.messages.specs.Spelled.{hex, shown}
use Rattle.buffers.proofs.AddedLaws.{added_length, added_one, added_then}
use Rattle.messages.proofs.HexLaws.{hexed, hex_fits, hex_8}

-- ---- letters

letter_listed : (t : List (ℕ × ℕ)) (c l : ℕ) → letter_of t c ≡ some l → Memᴰ (c, l) t
letter_listed [] c l e = differ (cc)
letter_listed (p ∷ t) c l e = go (eqb c p.0) refl e (letter_listed t c l)
  where
    go : (x : Bool) → eqb c p.0 ≡ x → pick x (some p.1) (letter_of t c) ≡ some l
        → (letter_of t c ≡ some l → Memᴰ (c, l) t) → Memᴰ (c, l) (p ∷ t)
    go true a e ih =
        let q : c ≡ p.0 = eqb-true c p.0 a in
        let r : p.1 ≡ l = cc in
        Memᴰ.head (λ i. (q i, sym r i))
    go false a e ih = Memᴰ.tail (ih e)

pub letter_none : (t : List (ℕ × ℕ)) (c : ℕ) → AllPairs (λ x l. c ≡ x → ⊥) t → letter_of t c ≡ none
letter_none [] c a = refl
letter_none (p ∷ t) c a = rw (ne_eqb c p.0 a.0) (letter_none t c a.1)

-- what holds of the five
abbrev Named : ℕ → ℕ → Type 0
Named c l = (letter_of named c ≡ some l) × (is_scalar c ≡ true)

five : AllPairs Named named
unfolding named is_scalar
five = ((refl, refl), ((refl, refl), ((refl, refl), ((refl, refl), ((refl, refl), tt)))))

is_named : {c l : ℕ} → Memᴰ (c, l) named → Named c l
is_named m = pairs_listed Named named five m

-- ---- characters

pub shown_named : (c l : ℕ) → letter_of named c ≡ some l → shown c ≡ byte "\\" ∷ l ∷ []
unfolding shown
shown_named c l e = rw (e, shown)

pub shown_raw : (c : ℕ) → letter_of named c ≡ none → between 0x20 0x7E c ≡ true → shown c ≡ c ∷ []
unfolding shown
shown_raw c e h = rw (e, h, shown)

pub shown_hex : (c : ℕ) → letter_of named c ≡ none → between 0x20 0x7E c ≡ false
    → shown c ≡ bytes "\\u{" ++ (hex c ++ bytes "}")
unfolding shown
shown_hex c e h = rw (e, h, shown)

-- the ways in which a character is shown
data Ways (c : ℕ) : List ℕ → Type 0 where
  letter : {l : ℕ} → Memᴰ (c, l) named → Ways c (byte "\\" ∷ l ∷ [])
  itself : between 0x20 0x7E c ≡ true → ((l : ℕ) → Memᴰ (c, l) named → ⊥) → Ways c (c ∷ [])
  number : between 0x20 0x7E c ≡ false → ((l : ℕ) → Memᴰ (c, l) named → ⊥)
      → Ways c (bytes "\\u{" ++ (hex c ++ bytes "}"))

ways : (c : ℕ) → Ways c (shown c)
ways c = go (letter_of named c) refl
  where
    no : letter_of named c ≡ none → (l : ℕ) → Memᴰ (c, l) named → ⊥
    no e l m = let k = is_named m in let z : none ≡ some l = sym e ∙ k.0 in differ (cc)

    range : (b : Bool) → letter_of named c ≡ none → between 0x20 0x7E c ≡ b → Ways c (shown c)
    range true e h = rw (shown_raw c e h) (Ways.itself h (no e))
    range false e h = rw (shown_hex c e h) (Ways.number h (no e))

    go : (o : Option ℕ) → letter_of named c ≡ o → Ways c (shown c)
    go (some l) e = rw (shown_named c l e) (Ways.letter (letter_listed named c l e))
    go none e = range (between 0x20 0x7E c) e refl

pub shown_right : (c : ℕ) → is_scalar c ≡ true → Shown c (shown c)
shown_right c s = go (ways c)
  where
    go : {v : List ℕ} → Ways c v → Shown c v
    go (Ways.letter m) = Shown.letter m
    go (Ways.itself h n) = Shown.itself h n
    go (Ways.number h n) = Shown.number s h n (hexed c)

pub shown_scalar : {c : ℕ} {s : List ℕ} → Shown c s → is_scalar c ≡ true
shown_scalar (Shown.letter m) = (is_named m).1
shown_scalar {c} (Shown.itself h n) = scalar_low c (let k = between_true 0x20 0x7E c h in omega arith)
shown_scalar (Shown.number s h n x) = s

pub shown_is : {c : ℕ} {s : List ℕ} → Shown c s → s ≡ shown c
shown_is {c} x = shown_one x (shown_right c (shown_scalar x))

-- four bytes beside the digits hold it
pub shown_fits : (c k : ℕ) → c < 16 ^ suc k → length (shown c) ≤ 5 + k
shown_fits c k h = go (ways c)
  where
    go : {v : List ℕ} → Ways c v → length v ≤ 5 + k
    go (Ways.letter m) = omega arith
    go (Ways.itself r n) = omega arith
    go (Ways.number r n) = omega (arith, length-append (hex c) (bytes "}"), hex_fits c k h)

pub shown_12 : (c : ℕ) → c < 2 ^ 32 → length (shown c) ≤ 12
shown_12 c h = shown_fits c 7 (omega arith)

-- for the tactics

pub ruleset characters = (added_length, added_one, hex_8, between_in)

pub ruleset texts = (added_length, shown_12)
