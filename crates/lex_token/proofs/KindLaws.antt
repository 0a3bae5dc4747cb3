-- The kinds of words and of idchars with a string, by the tests that tell them apart. Assumes nothing.
use Prim.Native.Nat.{ℕ, ◌+◌, ◌≤◌, ◌<◌}
use mathlib.Core.Path.{◌≡◌, sym, ap, ◌∙◌}
use mathlib.Core.Bool.{true, false}
use mathlib.Core.List.{List, [], ◌∷◌}
use lib.ListN.{length, get_or}
use lib.Seq.{slice}
use borrow.Author.Tests.{ne_eqb}
use Rattle.wat.specs.declared.TokenKind.TheVariants as kind
use Rattle.wat.specs.declared.Number.TheVariants.{Neither}
use Rattle.wat.specs.Bytes.{byte}
use Rattle.wat.specs.Chars.{letter}
use Rattle.wat.specs.LexModel.{word_kind}
use Rattle.wat_laws.proofs.RunKinds.{quoted_by}
use Rattle.lex_numbers.proofs.SliceLaws.{at_end_empty}
use Rattle.lex_token.proofs.SliceLaws.{slice_one, slice_two}

-- a word that is no number
module _ (x : ℕ) where
  pub plain_id : x ≡ byte "$" → word_kind Neither x ≡ kind.Id
  plain_id e = rw e

  pub plain_annotation : x ≡ byte "@" → word_kind Neither x ≡ kind.Annotation
  plain_annotation e = rw e

  module _ (d : x ≡ byte "$" → ⊥) (a : x ≡ byte "@" → ⊥) where
    pub plain_letter : letter x ≡ true → word_kind Neither x ≡ kind.Keyword
    plain_letter l = rw (ne_eqb x (byte "$") d, ne_eqb x (byte "@") a, l, word_kind)

    pub plain_other : letter x ≡ false → word_kind Neither x ≡ kind.Reserved
    plain_other l = rw (ne_eqb x (byte "$") d, ne_eqb x (byte "@") a, l, word_kind)

-- idchars and one string
module _ (s : List ℕ) (at end : ℕ) where
  pub quoted_none : end ≡ at → quoted_by (slice at end s) ≡ kind.String
  quoted_none e = ap quoted_by (at_end_empty s at end (sym e))

  module _ (h : end ≤ length s) where
    pub quoted_many : at + 1 < end → quoted_by (slice at end s) ≡ kind.Reserved
    quoted_many l = ap quoted_by (slice_two s at end h l)

    module _ (e : end ≡ at + 1) where
      one : quoted_by (slice at end s) ≡ quoted_by (get_or s at 0 ∷ [])
      one = ap quoted_by (slice_one s at end h e)

      pub quoted_id : get_or s at 0 ≡ byte "$" → quoted_by (slice at end s) ≡ kind.Id
      quoted_id d = one ∙ rw d

      pub quoted_annotation : get_or s at 0 ≡ byte "@" → quoted_by (slice at end s) ≡ kind.Annotation
      quoted_annotation d = one ∙ rw d

      pub quoted_other : (get_or s at 0 ≡ byte "$" → ⊥) → (get_or s at 0 ≡ byte "@" → ⊥)
          → quoted_by (slice at end s) ≡ kind.Reserved
      quoted_other d a = one ∙ rw (ne_eqb (get_or s at 0) (byte "$") d, ne_eqb (get_or s at 0) (byte "@") a, quoted_by)

pub ruleset plains = (plain_id, plain_annotation, plain_letter, plain_other)

pub ruleset quoteds = (quoted_none, quoted_many, quoted_id, quoted_annotation, quoted_other)
