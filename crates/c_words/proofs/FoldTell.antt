-- The words of a folded form's answer tell it: no two answers have the same words, and no refusal has the number of a form
-- that is too deep or left open. Assumes nothing.
use Prim.Native.Nat.{ℕ}
use mathlib.Core.Path.{◌≡◌, sym, ap}
use mathlib.Core.List.{List}
use native.Mathlib.Omega.{arith}
use lib.ListN.{get_or}
use Rattle.wat.specs.declared.Refusal.{Refusal}
use Rattle.std.specs.Prelude.{Ok, Err}
use Rattle.wat_forms.specs.declared.FoldError.TheVariants as error
use Rattle.wat_forms.specs.Folded.{Folded, Refused, TooDeep, Unclosed, Past}
use Rattle.c_words.specs.Words.{refused_words, folded_words}
use Rattle.c_words.proofs.RefusalLaws.{refused_words_tell, refused_number}

-- whether it is refused
abbrev way : List ℕ → ℕ
way w = get_or w 0 0

-- the number of a refusal, or the position past a form
abbrev second : List ℕ → ℕ
second w = get_or w 1 0

-- where it is refused
abbrev place : List ℕ → ℕ
place w = get_or w 2 0

refused_not_deep : (r : Refusal) (p o : ℕ) → refused_words r p ≡ folded_words (TooDeep o) → ⊥
refused_not_deep r p o e = omega (arith, refused_number r p (folded_words (TooDeep o)) e)

refused_not_open : (r : Refusal) (p o : ℕ) → refused_words r p ≡ folded_words (Unclosed o) → ⊥
refused_not_open r p o e = omega (arith, refused_number r p (folded_words (Unclosed o)) e)

pub folded_words_tell : (a b : Folded) → folded_words a ≡ folded_words b → a ≡ b
folded_words_tell (Err (error.Refused r)) (Err (error.Refused q)) e =
    let z = refused_words_tell r.refusal q.refusal r.place q.place e in
    let same : Refused r.refusal r.place ≡ Refused q.refusal q.place = cc (z.0, z.1) in
    same
folded_words_tell (Err (error.Refused r)) (Err (error.TooDeep o)) e = absurd (refused_not_deep r.refusal r.place o e)
folded_words_tell (Err (error.Refused r)) (Err (error.Unclosed o)) e = absurd (refused_not_open r.refusal r.place o e)
folded_words_tell (Err (error.Refused r)) (Ok at) e = absurd (omega (arith, ap way e))
folded_words_tell (Err (error.TooDeep p)) (Err (error.Refused q)) e = absurd (refused_not_deep q.refusal q.place p (sym e))
folded_words_tell (Err (error.TooDeep p)) (Err (error.TooDeep o)) e = ap (λ (w : List ℕ). TooDeep (place w)) e
folded_words_tell (Err (error.TooDeep p)) (Err (error.Unclosed o)) e = absurd (omega (arith, ap second e))
folded_words_tell (Err (error.TooDeep p)) (Ok at) e = absurd (omega (arith, ap way e))
folded_words_tell (Err (error.Unclosed p)) (Err (error.Refused q)) e = absurd (refused_not_open q.refusal q.place p (sym e))
folded_words_tell (Err (error.Unclosed p)) (Err (error.TooDeep o)) e = absurd (omega (arith, ap second e))
folded_words_tell (Err (error.Unclosed p)) (Err (error.Unclosed o)) e = ap (λ (w : List ℕ). Unclosed (place w)) e
folded_words_tell (Err (error.Unclosed p)) (Ok at) e = absurd (omega (arith, ap way e))
folded_words_tell (Ok at) (Err (error.Refused q)) e = absurd (omega (arith, ap way e))
folded_words_tell (Ok at) (Err (error.TooDeep o)) e = absurd (omega (arith, ap way e))
folded_words_tell (Ok at) (Err (error.Unclosed o)) e = absurd (omega (arith, ap way e))
folded_words_tell (Ok at) (Ok end) e = ap (λ (w : List ℕ). Past (second w)) e
