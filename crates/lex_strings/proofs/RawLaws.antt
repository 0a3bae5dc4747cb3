-- Laws of the fast paths: raw characters, and two digits. Assumes nothing.
use Prim.Native.Nat.{ℕ, suc, ◌+◌, ◌-◌, ◌*◌, ◌/◌, ◌%◌, ◌≤◌, ◌<◌}
use mathlib.Core.Path.{◌≡◌, refl, sym, ap, ◌∙◌}
use mathlib.Core.List.{List, [], ◌∷◌, ◌++◌, append_assoc, append-nil}
use mathlib.Core.Option.{some}
use mathlib.Core.Bool.{Bool, true, false, ◌&&◌, not}
use native.Mathlib.Omega.{arith}
use native.Mathlib.Numerals.{add-one, add-two, add-three}
use lib.Dec.{eqb}
use lib.ListN.{length, get_or, take, drop}
use lib.Seq.{take-add, drop-cons, drop-drop, slice, slice_empty, slice-cons}
use borrow.Author.Tests.{le-ltb, eq-eqb, ne_eqb, eqb-false, not-true}
use Rattle.wat.specs.Bytes.{byte, between, has}
use Rattle.wat.specs.declared.Settings.{Settings}
use Rattle.wat.specs.Utf8.{Char, scalar}
use Rattle.wat.specs.Chars.{control}
use Rattle.wat.specs.Numbers.{digit}
use Rattle.lex_classes.proofs.AskLaws.{hex_is}
use Rattle.wat.specs.Strings.{Elem, Elems}
use Rattle.wat.specs.StringModel.{hex_of, read, element}
use Rattle.wat.proofs.Scalars.{ascii}
use Rattle.wat.proofs.Basics.{between_true, differ}
use Rattle.wat.proofs.HexDigits.{of_hex}
use Rattle.wat.proofs.ElementReads.{elem_read}
use Rattle.wat.proofs.ElementFaults.{high_raw}
use Rattle.utf8_chars.specs.Boundary.{Continues}
use Rattle.utf8_chars.specs.Fronts.{Second}
use Rattle.utf8_chars.proofs.CharBytes.{char_2, char_3, char_4, wide_scalar}
use Rattle.lex_classes.specs.Ask.{raw, confusing_bytes}
use Rattle.lex_classes.proofs.ConfusingLaws.{confusing_not, unconfusing, unled}
use Rattle.lex_escapes.specs.Elements.{Element}
use Rattle.lex_strings.specs.Raw.{Raw, Raws}
use Rattle.lex_escapes.proofs.ElementLaws.{an_element, left_long}

pub both : (a b : Bool) → a && b ≡ true → (a ≡ true) × (b ≡ true)
both true b e = (refl, e)
both false b e = differ (cc)

-- ---- raw characters

pub raw_one : (s : List ℕ) (i : ℕ) → i < length s → raw (get_or s i 0) ≡ true → Raw s i 1
unfolding scalar raw control
raw_one s i h e =
    let b = get_or s i 0 in
    let w = both (between 0x20 0x7E b) _ e in
    let k = between_true 0x20 0x7E b w.0 in
    let n = both (not (eqb b (byte "\""))) _ w.1 in
    let f = eqb-false b (byte "\"") (not-true _ n.0) in
    let g = eqb-false b (byte "\\") (not-true _ n.1) in
    let shown : control b ≡ false = rw (le-ltb b 0x20 k.0, ne_eqb b 0x7F (omega arith)) in
    let plain = confusing_not b (omega arith) in
    record {
      some = omega arith;
      fits = omega arith;
      is = λ σ. rw (drop-cons s i 0 h) (Elem.raw (ascii b (omega arith)) shown f g (λ _. plain));
    }

-- a character that is not ASCII, and has not the bytes of a confusing one
raw_wide :
    (s : List ℕ) (i n : ℕ) (c : List ℕ) → 1 ≤ n → i + n ≤ length s → take n (drop i s) ≡ c → Char c
    → 0x80 ≤ get_or c 0 0 → confusing_bytes (get_or c 0 0) (get_or c 1 0) (get_or c 2 0) ≡ false → Raw s i n
raw_wide s i n c o h e ch w f =
    let high = wide_scalar c ch w in
    record {
      some = o;
      fits = h;
      is = λ σ. rw e (Elem.raw ch (high_raw (scalar c) high) (omega arith) (omega arith) (λ _. unconfusing c ch f));
    }

-- what `continues` says
pub continuing : (b : ℕ) → between 0x80 0xBF b ≡ true → Continues b
continuing b e = let w = between_true 0x80 0xBF b e in (w.0, omega arith)

-- characters of two, three and four bytes

module _ (s : List ℕ) (i : ℕ) where
  abbrev a : ℕ
  a = get_or s i 0

  abbrev b : ℕ
  b = get_or s (i + 1) 0

  abbrev c : ℕ
  c = get_or s (i + 2) 0

  abbrev d : ℕ
  d = get_or s (i + 3) 0

  pub raw_two : i + 2 ≤ length s → 0xC2 ≤ a → a < 0xE0 → between 0x80 0xBF b ≡ true → Raw s i 2
  raw_two h l k e =
      raw_wide s i 2 (a ∷ b ∷ []) (omega arith) h (rw (drop-cons s i 0 (omega arith), drop-cons s (suc i) 0 (omega arith), add-one i))
      (char_2 a b l k (continuing b e)) (omega arith) (unled a b 0 (omega arith))

  pub raw_three :
      i + 3 ≤ length s → 0xE0 ≤ a → a < 0xF0 → between 0x80 0xBF b && between 0x80 0xBF c ≡ true → (a ≡ 0xE0 → 0xA0 ≤ b)
      → (a ≡ 0xED → b ≤ 0x9F) → confusing_bytes a b c ≡ false → Raw s i 3
  raw_three h l k e x y f =
      let second : Second a b = record { after_e0 = x; after_ed = y; after_f0 = omega arith; after_f4 = omega arith } in
      let w = both (between 0x80 0xBF b) (between 0x80 0xBF c) e in
      raw_wide s i 3 (a ∷ b ∷ c ∷ []) (omega arith) h
      (rw (
        drop-cons s i 0 (omega arith),
        drop-cons s (suc i) 0 (omega arith),
        drop-cons s (suc (suc i)) 0 (omega arith),
        add-one i,
        add-two i,
      ))
      (char_3 a b c l k (continuing b w.0) second (continuing c w.1)) (omega arith) f

  -- none that starts otherwise is confusing
  pub raw_common :
      i + 3 ≤ length s → 0xE0 ≤ a → a < 0xF0 → between 0x80 0xBF b && between 0x80 0xBF c ≡ true → (a ≡ 0xE0 → 0xA0 ≤ b)
      → (a ≡ 0xED → b ≤ 0x9F) → (a ≡ 0xE2 → ⊥) → Raw s i 3
  raw_common h l k e x y n = raw_three h l k e x y (unled a b c n)

  pub raw_four :
      i + 4 ≤ length s → 0xF0 ≤ a → a ≤ 0xF4
      → between 0x80 0xBF b && (between 0x80 0xBF c && between 0x80 0xBF d) ≡ true → (a ≡ 0xF0 → 0x90 ≤ b)
      → (a ≡ 0xF4 → b ≤ 0x8F) → Raw s i 4
  raw_four h l k e x y =
      let second : Second a b = record { after_e0 = omega arith; after_ed = omega arith; after_f0 = x; after_f4 = y } in
      let w = both (between 0x80 0xBF b) _ e in
      let v = both (between 0x80 0xBF c) (between 0x80 0xBF d) w.1 in
      raw_wide s i 4 (a ∷ b ∷ c ∷ d ∷ []) (omega arith) h
      (rw (
        drop-cons s i 0 (omega arith),
        drop-cons s (suc i) 0 (omega arith),
        drop-cons s (suc (suc i)) 0 (omega arith),
        drop-cons s (suc (suc (suc i))) 0 (omega arith),
        add-one i,
        add-two i,
        add-three i,
      ))
      (char_4 a b c d l k (continuing b w.0) second (continuing c v.0) (continuing d v.1)) (omega arith) (unled a b c (omega arith))

-- the ways to find a character that is not ASCII
pub ruleset wides = (raw_two, raw_three, raw_common, raw_four)

elems_append : {σ : Settings} {a b v w : List ℕ} → Elems σ a v → Elems σ b w → Elems σ (a ++ b) (v ++ w)
elems_append Elems.none q = q
elems_append {b = b} {w = w} (Elems.next {s = s} {v = v} {t = t} {w = u} p r) q =
    rw (append_assoc s t b, append_assoc v u w) (Elems.next p (elems_append r q))

elems_one : {σ : Settings} {s v : List ℕ} → Elem σ s v → Elems σ s v
elems_one {s = s} {v = v} p = rw (append-nil s, append-nil v) at (Elems.next p Elems.none)

pub raws_none : (s : List ℕ) (at : ℕ) → at ≤ length s → Raws s at at
raws_none s at h =
    let o : at - at ≡ 0 = omega arith in
    record { order = omega arith; fits = h; are = λ σ. rw o Elems.none }

pub raws_more : (s : List ℕ) (at i n : ℕ) → Raws s at i → Raw s i n → Raws s at (i + n)
raws_more s at i n r x =
    let o : i + n - at ≡ i - at + n = omega (arith, r.order) in
    let p : at + (i - at) ≡ i = omega (arith, r.order) in
    let q : take (i + n - at) (drop at s) ≡ take (i - at) (drop at s) ++ take n (drop i s) =
    rw (o, take-add (i - at) n (drop at s), drop-drop (i - at) at s, p) in
    record {
      order = omega (arith, r.order);
      fits = x.fits;
      are = λ σ. rw q (elems_append (r.are σ) (elems_one (x.is σ)));
    }

-- ---- two digits

pub pair_is :
    (s : List ℕ) (at r h l : ℕ) → at + 3 ≤ length s → get_or s at 0 ≡ byte "\\" → hex_of (get_or s (at + 1) 0) ≡ some h
    → hex_of (get_or s (at + 2) 0) ≡ some l → r ≡ h * 16 + l → (σ : Settings)
    → Element (drop at s) (read σ (drop at s)) 3 (r ∷ [])
pair_is s at r h l k e p q o σ =
    let a = get_or s (at + 1) 0 in
    let b = get_or s (at + 2) 0 in
    let t = drop (suc (suc (suc at))) s in
    let d : drop at s ≡ byte "\\" ∷ a ∷ b ∷ t =
    rw (
      drop-cons s at 0 (omega arith),
      drop-cons s (suc at) 0 (omega arith),
      drop-cons s (suc (suc at)) 0 (omega arith),
      e,
      add-one at,
      add-two at,
    ) in
    rw o (an_element s at (ap (read σ) d ∙ elem_read t (Elem.pair (of_hex a h p) (of_hex b l q))) (omega arith) (omega arith)
    (omega arith))

pub pair_reads :
    (s : List ℕ) (at : ℕ) (σ : Settings) → at + 3 ≤ length s → get_or s at 0 ≡ byte "\\"
    → digit true (get_or s (at + 1) 0) && digit true (get_or s (at + 2) 0) ≡ true
    → read σ (drop at s)
    ≡ element 3 (((get_or s (at + 1) 0 % 16 + 9 * (get_or s (at + 1) 0 / 64)) * 16
    + (get_or s (at + 2) 0 % 16 + 9 * (get_or s (at + 2) 0 / 64))) ∷ [])
pair_reads s at σ k e d =
    let w = both (digit true (get_or s (at + 1) 0)) _ d in
    let h = hex_is (get_or s (at + 1) 0) w.0 in
    let l = hex_is (get_or s (at + 2) 0) w.1 in
    (pair_is s at _ _ _ k e h.0 l.0 refl σ).is

pub pair_small :
    (a b : ℕ) → digit true a && digit true b ≡ true → (a % 16 + 9 * (a / 64)) * 16 + (b % 16 + 9 * (b / 64)) < 256
pair_small a b d =
    let w = both (digit true a) (digit true b) d in
    let h = hex_is a w.0 in
    let l = hex_is b w.1 in
    omega (arith, h.1, l.1)

pub ruleset pairs = (pair_reads, pair_small, left_long)

-- ---- a byte among those from i to `to`

module _ (x : ℕ) (s : List ℕ) (i to : ℕ) where
  pub has_none : to ≡ i → has x (slice i to s) ≡ false
  unfolding has
  has_none e = rw (e, slice_empty i s)

  module _ (h : i < to) (k : to ≤ length s) where
    pub has_here : get_or s i 0 ≡ x → has x (slice i to s) ≡ true
    unfolding has
    has_here e = rw (slice-cons i to s 0 h k, eq-eqb (get_or s i 0) x e)

    pub has_next : (get_or s i 0 ≡ x → ⊥) → has x (slice i to s) ≡ has x (slice (i + 1) to s)
    unfolding has
    has_next f = rw (slice-cons i to s 0 h k, ne_eqb (get_or s i 0) x f, add-one i)

pub ruleset escapes_sought = (has_none, has_here, has_next)
