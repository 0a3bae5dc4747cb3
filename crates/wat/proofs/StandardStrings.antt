-- The standard's string elements, one by one, where ours are shaped otherwise: the two say the same where confusing
-- characters are allowed and digits are strict. Assumes nothing.
use Prim.Native.Nat.{ℕ, zero, suc, ◌+◌, ◌*◌, ◌≤◌}
use mathlib.Core.Path.{◌≡◌, refl}
use mathlib.Core.Bool.{Bool, true, false, ◌||◌}
use mathlib.Core.List.Memᴰ
use mathlib.Core.List.{List, [], ◌∷◌, ◌++◌}
use native.Mathlib.Omega.{arith}
use lib.Dec.{ltb, eqb}
use borrow.Author.Tests.{ltb-false, le-ltb, ne_eqb, eqb-false}
use Rattle.wat.specs.Bytes.{bytes, byte}
use Rattle.wat.specs.declared.Settings.{Settings}
use Rattle.wat.specs.Utf8.{Char, scalar}
use Rattle.wat.specs.Chars.{control}
use Rattle.wat.specs.Strings.{Hex, HexNum, escapes, Elem}
use Rattle.wat.proofs.Basics.{never, AllPairs, pairs_listed}

-- hexnum: a digit, or a number, perhaps an underscore, and a digit
pub data Hexnum : List ℕ → ℕ → Type 0 where
  one : {d n : ℕ} → Hex d n → Hexnum (d ∷ []) n
  more : {ds : List ℕ} {n d m : ℕ} → Hexnum ds n → Hex d m → Hexnum (ds ++ (d ∷ [])) (n * 16 + m)
  gap : {ds : List ℕ} {n d m : ℕ} → Hexnum ds n → Hex d m → Hexnum (ds ++ (byte "_" ∷ d ∷ [])) (n * 16 + m)

-- stringchar, and its UTF-8
pub data Stringchar : List ℕ → List ℕ → Type 0 where
  raw : {c : List ℕ} → Char c → 0x20 ≤ scalar c → (scalar c ≡ 0x7F → ⊥) → (scalar c ≡ byte "\"" → ⊥)
      → (scalar c ≡ byte "\\" → ⊥) → Stringchar c c
  tab : Stringchar (bytes "\\t") (0x09 ∷ [])
  line_feed : Stringchar (bytes "\\n") (0x0A ∷ [])
  return : Stringchar (bytes "\\r") (0x0D ∷ [])
  quotation : Stringchar (bytes "\\\"") (0x22 ∷ [])
  apostrophe : Stringchar (bytes "\\'") (0x27 ∷ [])
  backslash : Stringchar (bytes "\\\\") (0x5C ∷ [])
  unicode : {ds c : List ℕ} → Hexnum ds (scalar c) → Char c → Stringchar (bytes "\\u{" ++ (ds ++ bytes "}")) c

-- stringelem, and the bytes that it stands for
pub data Stringelem : List ℕ → List ℕ → Type 0 where
  char : {s v : List ℕ} → Stringchar s v → Stringelem s v
  pair : {h l n m : ℕ} → Hex h n → Hex l m → Stringelem (byte "\\" ∷ h ∷ l ∷ []) ((n * 16 + m) ∷ [])

-- under any settings
pub standard_hexnum : {σ : Settings} {ds : List ℕ} {n : ℕ} → Hexnum ds n → HexNum σ ds n
standard_hexnum (Hexnum.one h) = HexNum.one h
standard_hexnum (Hexnum.more r h) = HexNum.more 0 (λ e. omega arith) (standard_hexnum r) h
standard_hexnum (Hexnum.gap r h) = HexNum.more 1 (λ e. omega arith) (standard_hexnum r) h

control_not : (n : ℕ) → 0x20 ≤ n → (n ≡ 0x7F → ⊥) → control n ≡ false
unfolding control
control_not n h k = rw (le-ltb n 0x20 h, ne_eqb n 0x7F k)

-- what the standard has, we have
pub standard_element : {σ : Settings} {s v : List ℕ} → σ.allow_confusing ≡ true → Stringelem s v → Elem σ s v
unfolding escapes
standard_element a (Stringelem.char (Stringchar.raw {c = c} ch h k p q)) =
    Elem.raw ch (control_not (scalar c) h k) p q (λ e. absurd (never a e))
standard_element a (Stringelem.char Stringchar.tab) = Elem.letter (Memᴰ.head refl)
standard_element a (Stringelem.char Stringchar.line_feed) = Elem.letter (Memᴰ.tail (Memᴰ.head refl))
standard_element a (Stringelem.char Stringchar.return) = Elem.letter (Memᴰ.tail (Memᴰ.tail (Memᴰ.head refl)))
standard_element a (Stringelem.char Stringchar.quotation) =
    Elem.letter (Memᴰ.tail (Memᴰ.tail (Memᴰ.tail (Memᴰ.head refl))))
standard_element a (Stringelem.char Stringchar.apostrophe) =
    Elem.letter (Memᴰ.tail (Memᴰ.tail (Memᴰ.tail (Memᴰ.tail (Memᴰ.head refl)))))
standard_element a (Stringelem.char Stringchar.backslash) =
    Elem.letter (Memᴰ.tail
    (Memᴰ.tail (Memᴰ.tail (Memᴰ.tail (Memᴰ.tail (Memᴰ.head refl))))))
standard_element a (Stringelem.char (Stringchar.unicode r ch)) = Elem.unicode (standard_hexnum r) ch
standard_element a (Stringelem.pair h l) = Elem.pair h l

-- and what we have the standard has, where no two underscores stand together in a `\u{..}`: rule 5's one difference
abbrev pub Single : {σ : Settings} {ds : List ℕ} {n : ℕ} → HexNum σ ds n → Type 0
Single (HexNum.one h) = Unit {0}
Single (HexNum.more k g r h) = (k ≤ 1) × Single r

abbrev pub Singles : {σ : Settings} {s v : List ℕ} → Elem σ s v → Type 0
Singles (Elem.raw c n p q h) = Unit {0}
Singles (Elem.letter m) = Unit {0}
Singles (Elem.pair h l) = Unit {0}
Singles (Elem.unicode r c) = Single r

single_hexnum : {σ : Settings} {ds : List ℕ} {n : ℕ} (r : HexNum σ ds n) → Single r → Hexnum ds n
single_hexnum (HexNum.one h) s = Hexnum.one h
single_hexnum (HexNum.more zero g r h) s = Hexnum.more (single_hexnum r s.1) h
single_hexnum (HexNum.more (suc zero) g r h) s = Hexnum.gap (single_hexnum r s.1) h
single_hexnum (HexNum.more (suc (suc k)) g r h) s = absurd (omega (arith, s.0))

-- where digits are strict none do, so that a number is the standard's
strict_single : {σ : Settings} {ds : List ℕ} {n : ℕ} → σ.strict_digits ≡ true → (r : HexNum σ ds n) → Single r
strict_single e (HexNum.one h) = tt
strict_single e (HexNum.more k g r h) = (g e, strict_single e r)

pub hexnum_standard : {σ : Settings} {ds : List ℕ} {n : ℕ} → σ.strict_digits ≡ true → HexNum σ ds n → Hexnum ds n
hexnum_standard e r = single_hexnum r (strict_single e r)

lettered : AllPairs (λ e v. Stringelem (0x5C ∷ e ∷ []) (v ∷ [])) escapes
unfolding escapes
lettered = (
  Stringelem.char Stringchar.tab,
  (
    Stringelem.char Stringchar.line_feed,
    (
      Stringelem.char Stringchar.return,
      (Stringelem.char Stringchar.quotation, (Stringelem.char Stringchar.apostrophe, (Stringelem.char Stringchar.backslash, tt))),
    ),
  ),
)

from_space : (n : ℕ) → control n ≡ false → (0x20 ≤ n) × (n ≡ 0x7F → ⊥)
unfolding control
from_space n e = go (ltb n 0x20) (eqb n 0x7F) refl refl e
  where
    go : (a b : Bool) → ltb n 0x20 ≡ a → eqb n 0x7F ≡ b → a || b ≡ false → (0x20 ≤ n) × (n ≡ 0x7F → ⊥)
    go true b p q e = absurd (never refl e)
    go false true p q e = absurd (never refl e)
    go false false p q e = (ltb-false n 0x20 p, eqb-false n 0x7F q)

pub element_standard : {σ : Settings} {s v : List ℕ} (x : Elem σ s v) → Singles x → Stringelem s v
element_standard (Elem.raw {c = c} ch n p q h) s = let f = from_space (scalar c) n in Stringelem.char (Stringchar.raw ch f.0 f.1 p q)
element_standard (Elem.letter m) s = pairs_listed (λ e v. Stringelem (0x5C ∷ e ∷ []) (v ∷ [])) escapes lettered m
element_standard (Elem.pair h l) s = Stringelem.pair h l
element_standard (Elem.unicode r ch) s = Stringelem.char (Stringchar.unicode (single_hexnum r s) ch)

strict_singles : {σ : Settings} {s v : List ℕ} → σ.strict_digits ≡ true → (x : Elem σ s v) → Singles x
strict_singles e (Elem.raw c n p q h) = tt
strict_singles e (Elem.letter m) = tt
strict_singles e (Elem.pair h l) = tt
strict_singles e (Elem.unicode r c) = strict_single e r

pub strict_standard : {σ : Settings} {s v : List ℕ} → σ.strict_digits ≡ true → Elem σ s v → Stringelem s v
strict_standard e x = element_standard x (strict_singles e x)
