-- A string without a `\` stands for the characters between its quotes, which are UTF-8; one with a `\` does not stand for nothing.
-- Assumes nothing.
use Prim.Native.Nat.{ℕ, ◌+◌, ◌≤◌}
use mathlib.Core.Path.{◌≡◌, refl, ap}
use mathlib.Core.Bool.{true, false}
use mathlib.Core.List.{List, [], ◌∷◌}
use native.Mathlib.Omega.{arith}
use lib.ListN.{length, length-append}
use Rattle.wat.specs.Bytes.{byte, has}
use Rattle.wat.specs.declared.Settings.{Settings}
use Rattle.wat.specs.Utf8.{Char, WellFormed}
use Rattle.wat.specs.Strings.{Elem, Elems, Str}
use Rattle.wat.proofs.Basics.{never}
use Rattle.wat_laws.proofs.NoFault.{char_some}
use Rattle.wat_values.proofs.ValueLaws.{has_parts}

-- ---- without a `\`

elem_plain : {σ : Settings} {s v : List ℕ} → Elem σ s v → has (byte "\\") s ≡ false → (s ≡ v) × Char s
unfolding has
elem_plain (Elem.raw ch p q r h) e = (refl, ch)
elem_plain (Elem.letter m) e = absurd (never refl e)
elem_plain (Elem.pair p q) e = absurd (never refl e)
elem_plain (Elem.unicode r ch) e = absurd (never refl e)

elems_plain : {σ : Settings} {s v : List ℕ} → Elems σ s v → has (byte "\\") s ≡ false → (s ≡ v) × WellFormed s
elems_plain Elems.none e = (refl, WellFormed.empty)
elems_plain (Elems.next {s = s} {v = v} {t = t} {w = w} p r) e =
    let h = has_parts (byte "\\") s t e in
    let a = elem_plain p h.0 in
    let b = elems_plain r h.1 in
    let x = a.0 in
    let y = b.0 in
    (cc, WellFormed.more a.1 b.1)

pub str_plain : {σ : Settings} {w v : List ℕ} → Str σ w v → has (byte "\\") w ≡ false
    → (length w ≡ length v + 2) × WellFormed v
unfolding has
str_plain (Str.quoted {s = s} r) e =
    let a = elems_plain r (has_parts (byte "\\") s (byte "\"" ∷ []) e).0 in
    (omega (arith, length-append s (byte "\"" ∷ []), ap length a.0), rw a.0 at a.1)

-- ---- with one

elem_some : {σ : Settings} {s v : List ℕ} → Elem σ s v → 1 ≤ length v
elem_some (Elem.raw {c = c} ch p q r h) = char_some c ch
elem_some (Elem.letter m) = omega arith
elem_some (Elem.pair p q) = omega arith
elem_some (Elem.unicode {c = c} r ch) = char_some c ch

pub str_escaped : {σ : Settings} {w v : List ℕ} → Str σ w v → has (byte "\\") w ≡ true → 1 ≤ length v
unfolding has
str_escaped (Str.quoted Elems.none) e = absurd (never e refl)
str_escaped (Str.quoted (Elems.next {v = v} {w = w} p r)) e = omega (arith, elem_some p, length-append v w)
