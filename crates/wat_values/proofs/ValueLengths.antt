-- What a reader copies of a token is no longer than the token. Assumes nothing.
use Prim.Native.Nat.{ℕ, ◌+◌, ◌≤◌}
use mathlib.Core.Path.{◌≡◌, refl, ap}
use mathlib.Core.List.{List, [], ◌∷◌, ◌++◌}
use mathlib.Core.Bool.{Bool, true, false}
use native.Mathlib.Omega.{arith}
use lib.Dec.{eqb}
use lib.ListN.{length, length-append}
use Rattle.wat.specs.declared.Sign.{Sign}
use Rattle.wat.specs.declared.TokenKind.{TokenKind}
use Rattle.wat.specs.Bytes.{byte, has}
use Rattle.wat.specs.declared.Settings.{Settings}
use Rattle.wat.specs.Numbers.{prefix, nan_colon, Signed}
use Rattle.wat.specs.Strings.{Elem, Elems, Str}
use Rattle.wat_values.specs.declared.NameKind.{NameKind}
use Rattle.wat_values.specs.Values.{Reader, Value, copy_or_part, copied, bare, kept, Name}
use Rattle.wat_values.specs.Values.{Split, Reads}
use Rattle.wat_values.specs.Reading.{needs}
use Rattle.wat.proofs.ScalarValues.{char_short}

elem_short : {σ : Settings} {s v : List ℕ} → Elem σ s v → length v ≤ length s
elem_short (Elem.raw ch p q r h) = omega arith
elem_short (Elem.letter m) = omega arith
elem_short (Elem.pair p q) = omega arith
elem_short (Elem.unicode {ds = ds} r ch) = omega (arith, length-append ds (byte "}" ∷ []), char_short ch)

elems_short : {σ : Settings} {s v : List ℕ} → Elems σ s v → length v ≤ length s
elems_short Elems.none = omega arith
elems_short (Elems.next {s = s} {v = v} {t = t} {w = w} p r) =
    omega (arith, length-append s t, length-append v w, elem_short p, elems_short r)

pub str_short : {σ : Settings} {w v : List ℕ} → Str σ w v → length v + 2 ≤ length w
str_short (Str.quoted {s = s} r) = omega (arith, length-append s (byte "\"" ∷ []), elems_short r)

-- ---- what is copied is no longer than the token

left_short : (c : Bool) (n : ℕ) (v : List ℕ) → length (needs (copy_or_part c n v)) ≤ length v
unfolding copy_or_part
left_short true n v = omega arith
left_short false n v = omega arith

copied_short : (c : Bool) (v : List ℕ) → length (copied c v) ≤ length v
unfolding copied
copied_short true v = omega arith
copied_short false v = omega arith

bare_short : (s : List ℕ) → length (bare s) ≤ length s
unfolding bare
bare_short [] = omega arith
bare_short (x ∷ t) = go (eqb x 0x5F) refl (bare_short t)
  where
    go : (b : Bool) → eqb x 0x5F ≡ b → length (bare t) ≤ length t → length (bare (x ∷ t)) ≤ length (x ∷ t)
    go true e h = rw (e, bare) (omega arith)
    go false e h = rw (e, bare) (omega arith)

kept_short : {sign : Sign} {u : List ℕ} → Signed sign u → length (kept sign) ≤ length u
kept_short Signed.unsigned = omega arith
kept_short Signed.plus = omega arith
kept_short Signed.minus = omega arith

number_short : {sign : Sign} {u : List ℕ} (s : List ℕ) → Signed sign u → length (kept sign ++ bare s) ≤ length u + length s
number_short {sign} s g = omega (arith, length-append (kept sign) (bare s), kept_short g, bare_short s)

split_long : {hex : Bool} {w : List ℕ} {sign : Sign} {u p f e : List ℕ} → Split hex w sign u p f e
    → length w ≡ length u + (length (prefix hex) + (length p + (length f + length e)))
split_long {hex} {w} {sign} {u} {p} {f} {e} x =
    omega (
      arith,
      ap length x.is,
      length-append u (prefix hex ++ (p ++ (f ++ e))),
      length-append (prefix hex) (p ++ (f ++ e)),
      length-append p (f ++ e),
      length-append f e,
    )

-- digits that are no longer than the token, and with their sign
digits_short : (w : List ℕ) (c : Bool) (n : ℕ) (s : List ℕ) → length s ≤ length w
    → length (needs (copy_or_part c n (bare s))) ≤ length w
digits_short w c n s h = omega (arith, left_short c n (bare s), bare_short s)

signed_short : {sign : Sign} {u : List ℕ} (w : List ℕ) (c : Bool) (n : ℕ) (s : List ℕ) → Signed sign u
    → length u + length s ≤ length w
    → length (needs (copy_or_part c n (kept sign ++ bare s))) ≤ length w
signed_short {sign} w c n s g h = omega (arith, left_short c n (kept sign ++ bare s), number_short s g)

name_short : {n : NameKind} {w : List ℕ} {v : Value} → Name n w v → length (needs v) ≤ length w
name_short (Name.word h) = omega arith
name_short Name.nothing = omega arith
name_short (Name.quoted {w = w} {v = v} {x = x} q h) = omega (arith, left_short (has 0x5C w) 2 (x ∷ v), str_short q)
name_short (Name.quoted_nothing q) = omega arith
name_short (Name.quoted_wrong {w = w} {v = v} q h) = omega (arith, copied_short (has 0x5C w) v, str_short q)

pub needs_short : {r : Reader} {k : TokenKind} {w : List ℕ} {v : Value} → Reads r k w v → length (needs v) ≤ length w
needs_short Reads.itself = omega arith
needs_short (Reads.a_string {w = w} {v = v} q) = omega (arith, left_short (has 0x5C w) 1 v, str_short q)
needs_short (Reads.a_name s n) = omega (arith, name_short n)
needs_short {w = w} (Reads.an_integer {p = p} x) = signed_short w _ _ p x.signed (omega (arith, split_long x))
needs_short {w = w} (Reads.an_integral {p = p} x) = signed_short w _ _ p x.signed (omega (arith, split_long x))
needs_short (Reads.no_fraction x) = omega arith
needs_short (Reads.only_dot x) = omega arith
needs_short {w = w} (Reads.a_fraction {s = s} x d) = digits_short w _ _ s (omega (arith, split_long x))
needs_short (Reads.no_exponent x) = omega arith
needs_short {w = w} (Reads.an_exponent {v = v} {s = s} x g d) = signed_short w _ _ s g (omega (arith, length-append v s, split_long x))
needs_short {w = w} (Reads.a_payload {u = u} {s = s} g d e) =
    digits_short w _ _ s (omega (arith, ap length e, length-append u (nan_colon ++ s), length-append nan_colon s))
needs_short Reads.of_inf = omega arith
needs_short Reads.of_nan = omega arith
needs_short (Reads.of_payload n) = omega arith
needs_short Reads.of_normal = omega arith
