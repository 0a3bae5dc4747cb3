-- The parts of a number at places in a text: where the model's scans say that they begin and end, and that handing
-- over the digits there hands over the part. Assumes nothing.
use Prim.Native.Nat.{ℕ, ◌+◌, ◌-◌, ◌≤◌, ◌<◌}
use native.Mathlib.Omega.{arith}
use mathlib.Core.Path.{◌≡◌, refl, sym, ap, subst, ◌∙◌}
use mathlib.Core.Bool.{Bool, true, false, ◌||◌}
use mathlib.Core.List.{List, [], ◌∷◌, ◌++◌, append-nil, append_assoc}
use lib.Dec.{eqb}
use lib.ListN.{length, take, drop, length-append}
use lib.Seq.{slice, length-slice, drop-drop}
use Rattle.std.specs.Prelude.{Option, Some, None, IfSome}
use Rattle.wat.specs.declared.{Sign.Sign}
use Rattle.wat_values.specs.Answered.{Reading, Absent}
use Rattle.wat.specs.declared.Sign.TheVariants.{Unsigned}
use Rattle.wat.specs.declared.FloatKind.TheVariants.{Normal}
use Rattle.wat.specs.declared.TokenKind.TheVariants as kind
use Rattle.wat_values.specs.declared.FloatPart.TheVariants as the
use Rattle.wat.specs.Bytes.{bytes, byte, has}
use Rattle.wat.specs.Numbers.{prefix, nan_colon, Digits, Signed, IsFloat}
use Rattle.wat.specs.NumberModel.{Past, bad, past, run, fraction, sign_of, after_sign}
use Rattle.wat_values.specs.Values.{Reader, absent, copy_or_part, bare, dropped, kept, Split, Reads}
use Rattle.wat_values.specs.Reading.{Handed}
use Rattle.wat.proofs.Numbers.Digits.{passes}
use Rattle.wat.proofs.Numbers.Parts.{plain, sign_passed, after_passed, digits_plain, signs, fraction_stops, fraction_passed}
use Rattle.wat.proofs.Numbers.Decides.{body_plain}
use Rattle.wat.proofs.Basics.{or_no}
use Rattle.wat_values.proofs.SomeValue.{float_split}
use Rattle.wat_values.proofs.ValueLaws.{has_parts}
use Rattle.lex_numbers.specs.Places.{Skips, PastSign}
use Rattle.lex_numbers.specs.declared.Skipped.{Skipped}
use Rattle.lex_numbers.proofs.SliceLaws.{slice_between}
use Rattle.read_copies.specs.Copying.{HandsDigits}
use Rattle.read_copies.proofs.CopyLaws.{bare_plain}
use Rattle.read_parts.specs.Handing.{At, Payload, Left, Leaves, Hands, end_of}
use Rattle.read_parts.proofs.PlaceLaws.{apart, between, further}

-- ---- signs

signed_length : {sign : Sign} {u : List ℕ} → Signed sign u → length (dropped sign) + length (kept sign) ≡ length u
signed_length Signed.unsigned = refl
signed_length Signed.plus = refl
signed_length Signed.minus = refl

digits_length : {hex : Bool} {s : List ℕ} → Digits hex s → 0 < length s
digits_length (Digits.last p) = omega arith
digits_length (Digits.next p r) = omega arith
digits_length (Digits.gap p r) = omega arith

pub none_left : (o : ℕ) (buffer : List ℕ) → Handed o absent buffer Absent buffer
none_left o buffer = Handed.fits (omega arith)

-- a sign that is kept stands before what follows it
pub sign_before : (text : List ℕ) (i from end : ℕ) {sign : Sign} → end ≤ length text → sign ≡ sign_of (slice i end text)
    → i ≤ end
    → slice from end text ≡ after_sign (slice i end text) → from ≤ end
    → length (kept sign) ≤ from
sign_before text i from end {sign} fits g h w k =
    let s = signs (slice i end text) in
    let e : length (kept sign) ≡ length (kept (sign_of (slice i end text))) = ap (λ (z : Sign). length (kept z)) g in
    let a : from ≡ i + length s.0 =
    apart text end fits i from s.0 (after_sign (slice i end text)) (record { within = h; same = s.2 })
    (record { within = k; same = w }) in
    omega (arith, signed_length s.1)

-- a sign is passed of what is left from i on
pub sign_left : (text : List ℕ) (i end r : ℕ) → end ≤ length text → i ≤ end → PastSign (take (end - i) (drop i text)) r
    → (slice (i + r) end text ≡ after_sign (slice i end text)) × (i + r ≤ end)
sign_left text i end r fits h p =
    let q = rw slice_between at p in
    (sym (drop-drop r i (take end text)) ∙ q.same, omega (arith, q.within, length-slice i end text fits))

-- where a scan of what is left from i on ends
module _ (text : List ℕ) (i end : ℕ) (fits : end ≤ length text) {m : Past} where
  pub ends_within : (r : Option Skipped) → Skips (slice i end text) m r → i ≤ end → IfSome r (λ d. i + d.at ≤ end)
  ends_within None s h = tt
  ends_within (Some d) s h = omega (arith, s.within, length-slice i end text fits)

  ends : (r : Option Skipped) {u : Bool} {v : List ℕ} → Skips (slice i end text) m r → i ≤ end → m ≡ past u v
      → Left text end v (end_of r i end)
  ends None s h e = let z : bad ≡ past _ _ = sym s.same ∙ e in cc
  ends (Some d) {u} {v} s h e = record {
    within = ends_within (Some d) s h;
    same = sym (drop-drop d.at i (take end text)) ∙ rest (sym s.same ∙ e);
  }
    where
      rest : past d.underscores (drop d.at (slice i end text)) ≡ past u v → drop d.at (slice i end text) ≡ v
      rest q = cc

-- ---- a finite number

module _ {hex : Bool} {text : List ℕ} {at end : ℕ} (t : At (IsFloat hex) text at end) where
  -- some split of it
  some_split : (sign : Sign) × (u p f e : List ℕ) × Split hex (slice at end text) sign u p f e
  some_split = float_split t.is

  module _ {sign : Sign} {u p f e : List ℕ} (x : Split hex (slice at end text) sign u p f e) where
    sign_is : sign_of (slice at end text) ≡ sign
    sign_is = ap sign_of x.is ∙ sign_passed x.signed (body_plain hex (f ++ e) x.whole)

    -- the digits, after the sign and 0x
    pub digits_at : (i j : ℕ) → slice i end text ≡ after_sign (slice at end text) → i ≤ end → j ≡ i + length (prefix hex)
        → Left text end (p ++ (f ++ e)) j
    digits_at i j q h k =
        let a = after_passed x.signed (body_plain hex (f ++ e) x.whole) in
        further text end t.fits i j (prefix hex) (p ++ (f ++ e)) (record { within = h; same = q ∙ ap after_sign x.is ∙ a }) k

    pub whole_passed : {i : ℕ} → Left text end (p ++ (f ++ e)) i
        → run hex true (slice i end text) ≡ past (has (byte "_") p) (f ++ e)
    whole_passed l = ap (run hex true) l.same ∙ passes (f ++ e) x.whole (fraction_stops x.after x.power)

    pub fraction_past : {i : ℕ} → Left text end (f ++ e) i → fraction hex (slice i end text) ≡ past (has (byte "_") f) e
    fraction_past l = ap (fraction hex) l.same ∙ fraction_passed x.after x.power

    -- where a part begins
    begins : (a s : List ℕ) {i : ℕ} → u ++ (prefix hex ++ (p ++ (f ++ e))) ≡ a ++ s → Left text end s i → i ≡ at + length a
    begins a s {i} q l = apart text end t.fits at i a s (record { within = t.order; same = x.is ∙ q }) l

    digits_place : {i : ℕ} → Left text end (p ++ (f ++ e)) i → i ≡ at + length (u ++ prefix hex)
    digits_place l = begins (u ++ prefix hex) (p ++ (f ++ e)) (simp append_assoc) l

    module _ (none : has (byte "_") (slice at end text) ≡ false) where
      no_gap : has (byte "_") (p ++ (f ++ e)) ≡ false
      no_gap =
          (has_parts (byte "_") (prefix hex) (p ++ (f ++ e))
          (has_parts (byte "_") u (prefix hex ++ (p ++ (f ++ e))) (sym (ap (has (byte "_")) x.is) ∙ none)).1).1

      no_gap_after : has (byte "_") (f ++ e) ≡ false
      no_gap_after = (has_parts (byte "_") p (f ++ e) no_gap).1

    pub whole_handed : {copied : Bool} {buffer after : List ℕ} {r : Reading} {g : Sign} {from to : ℕ}
        → g ≡ sign_of (slice at end text)
        → Left text end (p ++ (f ++ e)) from → Left text end (f ++ e) to
        → HandsDigits copied g from (slice from to text) buffer r after
        → copied ≡ hex || has (byte "_") (slice at end text)
        → Handed at (copy_or_part copied (length (dropped sign)) (kept sign ++ bare p)) buffer r after
    whole_handed {copied} {buffer} {after} {r} {g} {from} {to} q l m h c =
        let i : slice from to text ≡ p = between text end t.fits from to p (f ++ e) l m in
        subst (λ (z : Sign). HandsDigits copied z from p buffer r after) (q ∙ sign_is)
        (subst (λ (z : List ℕ). HandsDigits copied g from z buffer r after) i h) at (length (dropped sign))
        (λ k.
        let z = or_no hex (has (byte "_") (slice at end text)) (sym c ∙ k) in
        record {
          next =
              let n = ap (λ (b : Bool). length (prefix b)) z.0 in
              omega (arith, digits_place l, signed_length x.signed, length-append u (prefix hex));
          plain = bare_plain p (has_parts (byte "_") p (f ++ e) (no_gap z.1)).0;
        })

  -- places that follow, by some split

  pub leaves_within : {i : ℕ} (rest : List ℕ → List ℕ → List ℕ → List ℕ) → Leaves hex text at end rest i → i ≤ end
  leaves_within rest l = let z = some_split in (l z.0 z.1 z.2 z.3 z.4 z.5).within

  pub whole_fits : {g : Sign} {from to : ℕ} → g ≡ sign_of (slice at end text)
      → Leaves hex text at end (λ p f e. p ++ (f ++ e)) from
      → Leaves hex text at end (λ p f e. f ++ e) to → (from ≤ to) × (to ≤ length text) × (length (kept g) ≤ from)
  whole_fits {g} {from} {to} q l m = go some_split.5
    where
      go : {sign : Sign} {u p f e : List ℕ} → Split hex (slice at end text) sign u p f e
          → (from ≤ to) × (to ≤ length text) × (length (kept g) ≤ from)
      go {sign} {u} {p} {f} {e} x =
          let i = l sign u p f e x in
          let j = m sign u p f e x in
          let k : length (kept g) ≡ length (kept sign) = ap (λ (z : Sign). length (kept z)) (q ∙ sign_is x) in
          let w = j.within in
          let h = t.fits in (
            omega (arith, apart text end t.fits from to p (f ++ e) i j),
            omega arith,
            omega (arith, digits_place x i, signed_length x.signed, length-append u (prefix hex)),
          )

  -- where its digits end, and its fraction, by what the scans find there

  module _ (r : Option Skipped) {i j : ℕ} (e : j ≡ end_of r i end) (h : i ≤ end) where
    pub whole_ends : Leaves hex text at end (λ p f e. p ++ (f ++ e)) i → Skips (slice i end text) (run hex true (slice i end text)) r
        → Leaves hex text at end (λ p f e. f ++ e) j
    whole_ends l s = λ sign u p f e' x. rw e (ends text i end t.fits r s h (whole_passed x (l sign u p f e' x)))

    pub fraction_ends : Leaves hex text at end (λ p f e. f ++ e) i → Skips (slice i end text) (fraction hex (slice i end text)) r
        → Leaves hex text at end (λ p f e. e) j
    fraction_ends l s = λ sign u p f e' x. rw e (ends text i end t.fits r s h (fraction_past x (l sign u p f e' x)))

  -- ---- its fraction, from `dot` to `to`

  module _
      {dot to : ℕ} (l : Leaves hex text at end (λ p f e. f ++ e) dot) (m : Leaves hex text at end (λ p f e. e) to)
      (copied : Bool) where
    -- so many bytes has the fraction
    long : {sign : Sign} {u p f e : List ℕ} → Split hex (slice at end text) sign u p f e → to ≡ dot + length f
    long {sign} {u} {p} {f} {e} x = apart text end t.fits dot to f e (l sign u p f e x) (m sign u p f e x)

    pub fraction_order : dot ≤ to
    fraction_order = let h = long some_split.5 in omega arith

    pub fraction_absent : {buffer : List ℕ} → to - dot < 2
        → Hands (Reader.float the.Fraction) (kind.Float (Normal copied hex)) text at end buffer Absent buffer
    fraction_absent {buffer} h v (Reads.no_fraction x) = none_left at buffer
    fraction_absent {buffer} h v (Reads.only_dot x) = none_left at buffer
    fraction_absent {buffer} h v (Reads.a_fraction x d) = absurd (omega (arith, long x, digits_length d))

    pub fraction_handed : {buffer after : List ℕ} {r : Reading} → 2 ≤ to - dot
        → HandsDigits copied Unsigned (dot + 1) (slice (dot + 1) to text) buffer r after → copied ≡ has (byte "_") (slice at end text)
        → Hands (Reader.float the.Fraction) (kind.Float (Normal copied hex)) text at end buffer r after
    unfolding has
    fraction_handed h d c v (Reads.no_fraction x) = absurd (omega (arith, long x))
    fraction_handed h d c v (Reads.only_dot x) = absurd (omega (arith, long x))
    fraction_handed {buffer} {after} {r} h d c v (Reads.a_fraction {sign = sign} {u = u} {p = p} {s = s} {e = e} x y) =
        let f = byte "." ∷ s in
        let i = l sign u p f e x in
        let k : slice (dot + 1) to text ≡ s = between text end t.fits (dot + 1) to s e
        (further text end t.fits dot (dot + 1) (bytes ".") (s ++ e) i refl) (m sign u p f e x) in
        let b : dot ≡ at + length (u ++ (prefix hex ++ p)) = begins x (u ++ (prefix hex ++ p)) (f ++ e) (simp append_assoc) i in
        subst (λ (z : List ℕ). HandsDigits copied Unsigned (dot + 1) z buffer r after) k d at (length (u ++ (prefix hex ++ p)) + 1)
        (λ q. record { next = omega arith; plain = bare_plain s (has_parts (byte "_") s e (no_gap_after x (sym c ∙ q))).0 })

  -- ---- its exponent, from `mark` to `end`

  module _ {mark : ℕ} (l : Leaves hex text at end (λ p f e. e) mark) (copied : Bool) where
    -- so many bytes has the exponent
    rest : {sign : Sign} {u p f e : List ℕ} → Split hex (slice at end text) sign u p f e → end - mark ≡ length e
    rest {sign} {u} {p} {f} {e} x = sym (length-slice mark end text t.fits) ∙ ap length (l sign u p f e x).same

    pub exponent_absent : {buffer : List ℕ} → mark ≡ end
        → Hands (Reader.float the.Exponent) (kind.Float (Normal copied hex)) text at end buffer Absent buffer
    exponent_absent {buffer} h v (Reads.no_exponent x) = none_left at buffer
    exponent_absent {buffer} h v (Reads.an_exponent x g d) = absurd (omega (arith, rest x))

    pub exponent_handed : {buffer after : List ℕ} {r : Reading} {g : Sign} {from : ℕ} → mark < end
        → g ≡ sign_of (slice (mark + 1) end text)
        → slice from end text ≡ after_sign (slice (mark + 1) end text) → from ≤ end
        → HandsDigits copied g from (slice from end text) buffer r after → copied ≡ has (byte "_") (slice at end text)
        → Hands (Reader.float the.Exponent) (kind.Float (Normal copied hex)) text at end buffer r after
    unfolding has
    exponent_handed h q w i d c v (Reads.no_exponent x) = absurd (omega (arith, rest x))
    exponent_handed {buffer} {after} {r} {g} {from} h q w i d c v'
        (Reads.an_exponent {sign = sign} {power = power} {m = m} {u = u} {p = p} {f = f} {v = v} {s = s} x sg y) =
        let e = m ∷ v ++ s in
        let j = l sign u p f e x in
        let k = further text end t.fits mark (mark + 1) (m ∷ []) (v ++ s) j refl in
        let b = rw append-nil at (digits_plain [] y) in
        let n : g ≡ power = q ∙ ap sign_of k.same ∙ sign_passed sg b in
        let a : slice from end text ≡ s = w ∙ ap after_sign k.same ∙ after_passed sg b in
        let o : mark ≡ at + length (u ++ (prefix hex ++ (p ++ f))) = begins x (u ++ (prefix hex ++ (p ++ f))) e (simp append_assoc) j in
        let z : from ≡ mark + 1 + length v = apart text end t.fits (mark + 1) from v s k (record { within = i; same = a }) in
        subst (λ (z : Sign). HandsDigits copied z from s buffer r after) n
        (subst (λ (z : List ℕ). HandsDigits copied g from z buffer r after) a d) at
        (length (u ++ (prefix hex ++ (p ++ f))) + 1 + length (dropped power))
        (λ k.
        let none = (has_parts (byte "_") f e (no_gap_after x (sym c ∙ k))).1 in
        record {
          next = omega (arith, signed_length sg);
          plain = bare_plain s (has_parts (byte "_") v s (or_no (eqb m (byte "_")) (has (byte "_") (v ++ s)) none).1).1;
        })

-- ---- a payload

module _ {text : List ℕ} {at end : ℕ} (t : At Payload text at end) {sign : Sign} (u s : List ℕ) (g : Signed sign u) where
  module _ (is : slice at end text ≡ u ++ (nan_colon ++ s)) where
    -- its digits, after the sign and nan:0x
    pub payload_at : (i j : ℕ) → slice i end text ≡ after_sign (slice at end text) → i ≤ end → j ≡ i + 6 → Left text end s j
    payload_at i j e h q =
        further text end t.fits i j nan_colon s
        (record { within = h; same = e ∙ ap after_sign is ∙ after_passed g (plain refl refl) }) q

    pub payload_handed : {copied : Bool} {buffer after : List ℕ} {r : Reading} {from : ℕ} → Left text end s from
        → HandsDigits copied Unsigned from (slice from end text) buffer r after → copied ≡ has (byte "_") (slice at end text)
        → Handed at (copy_or_part copied (length (u ++ nan_colon)) (bare s)) buffer r after
    payload_handed {copied} {buffer} {after} {r} {from} l d c =
        let f : from ≡ at + length (u ++ nan_colon) = apart text end t.fits at from (u ++ nan_colon) s
        (record { within = t.order; same = is ∙ sym (append_assoc u nan_colon s) }) l in
        subst (λ (z : List ℕ). HandsDigits copied Unsigned from z buffer r after) l.same d at (length (u ++ nan_colon))
        (λ k.
        let e : has (byte "_") (u ++ (nan_colon ++ s)) ≡ false = sym (ap (has (byte "_")) is) ∙ (sym c ∙ k) in
        record {
          next = omega arith;
          plain =
              bare_plain s (has_parts (byte "_") nan_colon s (has_parts (byte "_") u (nan_colon ++ s) e).1).1;
        })
