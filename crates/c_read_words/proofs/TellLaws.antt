-- The words of an integer's value tell it: no two values have the same words, and no refusal has those of a literal that is
-- out of range. The words of a name's answer tell it, and whose name it is. Assumes nothing.
use Prim.Native.Nat.{ℕ}
use mathlib.Core.Path.{◌≡◌, refl, sym, ap}
use mathlib.Core.List.{List}
use native.Mathlib.Omega.{arith}
use lib.ListN.{get_or, take}
use Rattle.std.specs.Prelude.{Some, None, Ok, Err}
use Rattle.wat.specs.declared.{Refusal.Refusal, Refused.Refused as Reason}
use Rattle.wat_values.specs.declared.NameKind.{NameKind}
use Rattle.wat_values.specs.Named.{NameReading}
use Rattle.wat_values.specs.Named as name
use Rattle.wat_values.specs.IntegerValue.{IntegerValue, Refused, OutOfRange, Word}
use Rattle.wat_values.specs.declared.NameKind.TheVariants.{Id, Annotation}
use Rattle.wat_values.specs.declared.{Name.Name, Part.Part}
use Rattle.wat_values.specs.declared.Part.TheVariants as part
use Rattle.c_words.specs.Words.{refused_words}
use Rattle.c_words.proofs.RefusalLaws.{refused_words_tell, refused_number}
use Rattle.c_read_words.specs.Words.{integer_words, kind_word, name_words}

abbrev word : ℕ → List ℕ → ℕ
word i w = get_or w i 0

refused_in_range : (r : Refusal) (p : ℕ) → refused_words r p ≡ integer_words OutOfRange → ⊥
refused_in_range r p e = omega (arith, refused_number r p (integer_words OutOfRange) e)

pub integer_words_tell : (a b : IntegerValue) → integer_words a ≡ integer_words b → a ≡ b
integer_words_tell (Err r) (Err q) e =
    let z = refused_words_tell r.refusal q.refusal r.place q.place e in
    let same : Refused r.refusal r.place ≡ Refused q.refusal q.place = cc (z.0, z.1) in
    same
integer_words_tell (Err r) (Ok None) e = absurd (refused_in_range r.refusal r.place e)
integer_words_tell (Err r) (Ok (Some v)) e = absurd (omega (arith, ap (word 0) e))
integer_words_tell (Ok None) (Err r) e = absurd (refused_in_range r.refusal r.place (sym e))
integer_words_tell (Ok None) (Ok None) e = refl
integer_words_tell (Ok None) (Ok (Some v)) e = absurd (omega (arith, ap (word 0) e))
integer_words_tell (Ok (Some v)) (Err r) e = absurd (omega (arith, ap (word 0) e))
integer_words_tell (Ok (Some v)) (Ok None) e = absurd (omega (arith, ap (word 0) e))
integer_words_tell (Ok (Some v)) (Ok (Some u)) e = ap (λ (w : List ℕ). Word (get_or w 1 0)) e

kind_word_tells : (n m : NameKind) → kind_word n ≡ kind_word m → n ≡ m
kind_word_tells Id Id e = refl
kind_word_tells Id Annotation e = absurd (omega (arith, e))
kind_word_tells Annotation Id e = absurd (omega (arith, e))
kind_word_tells Annotation Annotation e = refl

-- a refusal has not the words of a name
refused_no_name : (a : Reason) (n : Name) → name_words (Err a) ≡ name_words (Ok n) → ⊥
refused_no_name a n e = go n.part e
  where
    go : (p : Part) → name_words (Err a) ≡ name_words (Ok (record { kind = n.kind; part = p })) → ⊥
    go (part.Text i l) e = omega (arith, ap (word 0) e)
    go (part.Buffer i l) e = omega (arith, ap (word 0) e)

pub name_words_tell : (a b : NameReading) → name_words a ≡ name_words b → a ≡ b
name_words_tell (Err a) (Err b) e =
    let z = refused_words_tell a.refusal b.refusal a.place b.place (ap (take 5) e) in
    let same : name.Refused a.refusal a.place ≡ name.Refused b.refusal b.place = cc (z.0, z.1) in
    same
name_words_tell (Err a) (Ok m) e = absurd (refused_no_name a m e)
name_words_tell (Ok n) (Err b) e = absurd (refused_no_name b n (sym e))
name_words_tell (Ok n) (Ok m) e = go n.kind m.kind n.part m.part e
  where
    go : (h k : NameKind) (p q : Part)
        → name_words (Ok (record { kind = h; part = p })) ≡ name_words (Ok (record { kind = k; part = q }))
        → ◌≡◌ {A = NameReading} (Ok (record { kind = h; part = p })) (Ok (record { kind = k; part = q }))
    go h k (part.Text i l) (part.Text j o) e = cc (kind_word_tells h k (ap (word 5) e), ap (word 1) e, ap (word 2) e)
    go h k (part.Text i l) (part.Buffer j o) e = absurd (omega (arith, ap (word 0) e))
    go h k (part.Buffer i l) (part.Text j o) e = absurd (omega (arith, ap (word 0) e))
    go h k (part.Buffer i l) (part.Buffer j o) e = cc (kind_word_tells h k (ap (word 5) e), ap (word 1) e, ap (word 2) e)
