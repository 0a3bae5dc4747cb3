-- The part that an answer names has the bytes that `Second` asks, and one address: no second answer. Assumes nothing.
use Prim.Native.Nat.{ℕ}
use mathlib.Core.Path.{◌≡◌, sym, subst, ◌∙◌}
use mathlib.Core.List.{List}
use native.Mathlib.Omega.{arith}
use lib.ListN.{take, drop}
use denote.Ref.{Bor}
use Rattle.wat_values.specs.Answered.{Reading, Refused, Absent, Text, Buffer}
use Rattle.wat_values.specs.Reading.{Second}
use Rattle.wat.proofs.Basics.{differ}
use Rattle.read_second.specs.Parts.{PartRef, PartOf, PartFor}

-- the bytes that a part of a slice has
having : {t b : List ℕ} {a : Reading} {s r : Bor (List ℕ)} {start len : ℕ} → PartRef s start len r
    → Second t b a (take len (drop start s.now)) → Second t b a r.now
having {t} {b} {a} p x = subst (Second t b a) (sym p.bytes) x

module _ {text buffer : Bor (List ℕ)} where
  pub part_second : {a : Reading} {r : Bor (List ℕ)} → PartFor text buffer a r → Second text.now buffer.now a r.now
  part_second (PartFor.of_text (PartOf.inside h p)) = having p (Second.in_text h)
  part_second (PartFor.of_text {start} {len} (PartOf.outside h p)) =
      having p (Second.none
      (λ s l (q : Text start len ≡ Text s l). let i : start ≡ s = cc in let j : len ≡ l = cc in omega arith)
      (λ s l (q : Text start len ≡ Buffer s l). differ (cc)))
  part_second (PartFor.of_buffer (PartOf.inside h p)) = having p (Second.in_buffer h)
  part_second (PartFor.of_buffer {start} {len} (PartOf.outside h p)) =
      having p (Second.none
      (λ s l (q : Buffer start len ≡ Text s l). differ (cc))
      (λ s l (q : Buffer start len ≡ Buffer s l). let i : start ≡ s = cc in let j : len ≡ l = cc in omega arith))
  part_second (PartFor.refused {x} {p = at} p) =
      having p (Second.none
      (λ s l (q : Refused x at ≡ Text s l). differ (cc))
      (λ s l (q : Refused x at ≡ Buffer s l). differ (cc)))
  part_second (PartFor.absent p) =
      having p (Second.none (λ s l (q : Absent ≡ Text s l). differ (cc)) (λ s l (q : Absent ≡ Buffer s l). differ (cc)))

  -- what the call promises, of an answer that is known to be b
  pub promised : {a b : Reading} {r : Bor (List ℕ)} → a ≡ b → PartFor text buffer b r
      → Second text.now buffer.now a r.now × PartFor text buffer a r
  promised {r = r} e p = let q = subst (λ (x : Reading). PartFor text buffer x r) (sym e) p in (part_second q, q)

  module _ {a : Reading} {r : Bor (List ℕ)} where
    pub text_part : {start len : ℕ} → a ≡ Text start len → PartOf text start len r
        → Second text.now buffer.now a r.now × PartFor text buffer a r
    text_part e p = promised e (PartFor.of_text p)

    pub buffer_part : {start len : ℕ} → a ≡ Buffer start len → PartOf buffer start len r
        → Second text.now buffer.now a r.now × PartFor text buffer a r
    buffer_part e p = promised e (PartFor.of_buffer p)

    pub absent_part : a ≡ Absent → PartRef text 0 0 r → Second text.now buffer.now a r.now × PartFor text buffer a r
    absent_part e p = promised e (PartFor.absent p)

-- ---- no other part

-- two references at one address, to the same bytes. No code tells them apart
abbrev pub SameReference : Bor (List ℕ) → Bor (List ℕ) → Type 0
SameReference r r' = (r.ref_ptr ≡ r'.ref_ptr) × (r.now ≡ r'.now)

module _ {r r' : Bor (List ℕ)} where
  ref_one : {s : Bor (List ℕ)} {start len : ℕ} → PartRef s start len r → PartRef s start len r' → SameReference r r'
  ref_one p q = (p.address ∙ sym q.address, p.bytes ∙ sym q.bytes)

  of_one : {s : Bor (List ℕ)} {start len : ℕ} → PartOf s start len r → PartOf s start len r' → SameReference r r'
  of_one (PartOf.inside h p) (PartOf.inside k q) = ref_one p q
  of_one (PartOf.inside h p) (PartOf.outside k q) = absurd (omega arith)
  of_one (PartOf.outside h p) (PartOf.inside k q) = absurd (omega arith)
  of_one (PartOf.outside h p) (PartOf.outside k q) = ref_one p q

  pub part_one : {text buffer : Bor (List ℕ)} {a : Reading} → PartFor text buffer a r → PartFor text buffer a r' → SameReference r r'
  part_one (PartFor.of_text p) (PartFor.of_text q) = of_one p q
  part_one (PartFor.of_buffer p) (PartFor.of_buffer q) = of_one p q
  part_one (PartFor.refused p) (PartFor.refused q) = ref_one p q
  part_one (PartFor.absent p) (PartFor.absent q) = ref_one p q
