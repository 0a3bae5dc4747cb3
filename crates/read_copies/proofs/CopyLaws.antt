-- Copies without underscores: what the loops that measure and write one go by, and how the copy, or the place in the text, is handed over.
-- Assumes nothing.
use Prim.Native.Nat.{ℕ, ◌+◌, ◌-◌, ◌≤◌, ◌<◌}
use native.Mathlib.Nat.{zero-add}
use native.Mathlib.Omega.{arith}
use mathlib.Core.Path.{◌≡◌, refl, sym, ap, subst, ◌∙◌}
use mathlib.Core.Bool.{Bool, true, false}
use mathlib.Core.List.{List, [], ◌∷◌, ◌++◌, append-nil}
use lib.Dec.{eqb}
use lib.ListN.{length, get_or, drop, set, length-append}
use lib.Seq.{slice, append_snoc, length-slice}
use borrow.Author.Tests.{eq-eqb, ne_eqb}
use Rattle.wat.specs.declared.Sign.{Sign}
use Rattle.wat_values.specs.Answered.{Reading, Text, Buffer}
use Rattle.wat.specs.Bytes.{byte, has}
use Rattle.wat_values.specs.Values.{copy, copy_or_part, bare, kept}
use Rattle.wat_values.specs.Reading.{Handed}
use Rattle.buffers.specs.Writing.{Put}
use Rattle.buffers.proofs.PutLaws.{put_none, put_byte, put_then, put_length}
use Rattle.lex_numbers.proofs.SliceLaws.{at_byte, at_end_empty}
use Rattle.read_copies.specs.Copying.{Beside}

-- ---- a byte at a time

module _ (text : List ℕ) (i to : ℕ) where
  module _ (below : i < to) (fits : to ≤ length text) where
    pub bare_off : get_or text i 0 ≡ byte "_" → bare (slice i to text) ≡ bare (slice (i + 1) to text)
    unfolding bare
    bare_off e = rw (at_byte text i to below fits) (rw (eq-eqb (get_or text i 0) (byte "_") e, bare))

    pub bare_on : (get_or text i 0 ≡ byte "_" → ⊥) → bare (slice i to text) ≡ get_or text i 0 ∷ bare (slice (i + 1) to text)
    unfolding bare
    bare_on n = rw (at_byte text i to below fits) (rw (ne_eqb (get_or text i 0) (byte "_") n, bare))

  pub bare_end : to ≤ i → i ≤ to → bare (slice i to text) ≡ []
  unfolding bare
  bare_end h k = rw (at_end_empty text i to (omega arith))

-- the buffer was d and is e: what is bare of the bytes from `from` to i stands in it from `at` to n
pub record Written (text : List ℕ) (from to i at n : ℕ) (d e : List ℕ) : Type 0 where
  pub value : List ℕ
  pub put : Put d e at value
  pub rest : value ++ bare (slice i to text) ≡ bare (slice from to text)
  pub long : n ≡ at + length value

pub written_none : {text d : List ℕ} {from to at : ℕ} → at ≤ length d → Written text from to from at at d d
written_none {d = d} {at = at} h = record { value = []; put = put_none d at h; rest = refl; long = omega arith }

module _ {text d e : List ℕ} {from to i at n : ℕ} (x : Written text from to i at n d e) where
  pub written_off : (j : ℕ) → bare (slice i to text) ≡ bare (slice j to text) → Written text from to j at n d e
  written_off j q =
      record { value = x.value; put = x.put; rest = ap (λ (z : List ℕ). x.value ++ z) (sym q) ∙ x.rest; long = x.long }

  module _ {b : ℕ} (j : ℕ) (q : bare (slice i to text) ≡ b ∷ bare (slice j to text))
      (room : at + length (bare (slice from to text)) ≤ length d) where
    below : n < length d
    below = omega (arith, x.long, ap length q, ap length x.rest, length-append x.value (bare (slice i to text)))

    pub written_room : n < length e
    written_room = omega (arith, below, put_length d e at x.value x.put)

    pub written_on : Written text from to j at (n + 1) d (set e n b)
    written_on = record {
      value = x.value ++ (b ∷ []);
      put = put_byte d e at x.value x.put n b x.long below;
      rest = append_snoc x.value b (bare (slice j to text)) ∙ ap (λ (z : List ℕ). x.value ++ z) (sym q) ∙ x.rest;
      long = omega (arith, x.long, length-append x.value (b ∷ []));
    }

  pub written_length : length e ≡ length d
  written_length = put_length d e at x.value x.put

  pub written_all : bare (slice i to text) ≡ [] → Put d e at (bare (slice from to text))
  written_all q = subst (Put d e at) (sym (append-nil x.value) ∙ ap (λ (z : List ℕ). x.value ++ z) (sym q) ∙ x.rest) x.put

-- what is bare of the bytes from i on, a byte at a time
pub ruleset bares = (bare_off, bare_on, bare_end)

pub ruleset writing = (bares, written_none, written_off, written_on, written_length)

-- ---- handed over

pub bare_plain : (s : List ℕ) → has (byte "_") s ≡ false → bare s ≡ s
unfolding bare has
bare_plain [] h = refl
bare_plain (x ∷ t) h = go (eqb x (byte "_")) refl h (bare_plain t)
  where
    go : (b : Bool) → eqb x (byte "_") ≡ b → has (byte "_") (x ∷ t) ≡ false
        → (has (byte "_") t ≡ false → bare t ≡ t) → bare (x ∷ t) ≡ x ∷ t
    go true e h k = let z : true ≡ false = rw e at h in cc
    go false e h k = let z : has (byte "_") t ≡ false = rw e at h in rw (e, bare) (ap (λ (l : List ℕ). x ∷ l) (k z))

-- two writes, one after the other, are the copy
pub copied : {o first n : ℕ} (d e f v w : List ℕ) → Put d e 0 v → Put e f first w → first ≡ length v → n ≡ first + length w
    → Handed o (copy (v ++ w)) d (Buffer 0 n) f
copied {o} {first} {n} d e f v w p q l m =
    let t : Put d f 0 (v ++ w) = put_then d e 0 v p f w (rw (zero-add (length v), ← l) q) in
    let k : n ≡ length (v ++ w) = omega (arith, length-append v w) in
    let b : f ≡ (v ++ w) ++ drop (length (v ++ w)) d = t.is ∙ ap (λ (z : ℕ). (v ++ w) ++ drop z d) (zero-add (length (v ++ w))) in
    rw (k, b) (Handed.fits (omega (arith, t.fits)))

pub as_copy : {o : ℕ} {buffer after v : List ℕ} {r : Reading} (c : Bool) (n : ℕ) → c ≡ true → Handed o (copy v) buffer r after
    → Handed o (copy_or_part c n v) buffer r after
unfolding copy_or_part
as_copy c n e h = rw e h

-- where they stand
pub in_text : {sign : Sign} {start from len : ℕ} (o n : ℕ) (c : Bool) (p buffer : List ℕ) → c ≡ false
    → Beside sign (o + n) from p
    → start ≡ from - length (kept sign) → len ≡ length (kept sign) + length p
    → Handed o (copy_or_part c n (kept sign ++ bare p)) buffer (Text start len) buffer
unfolding copy_or_part
in_text {sign} {start} {from} {len} o n c p buffer e b q l =
    let s : start ≡ o + n = omega (arith, b.next) in
    let k : len ≡ length (kept sign ++ p) = omega (arith, length-append (kept sign) p) in
    rw (e, b.plain, s, k) (Handed.fits (omega arith))

pub ruleset handing = (length-slice, as_copy, in_text)
