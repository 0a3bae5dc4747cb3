-- The words of a refusal tell it: it is found again from its number and its values. Assumes nothing.
use Prim.Native.Nat.{ℕ}
use mathlib.Core.Path.{◌≡◌, refl, sym, ap, ◌∙◌}
use mathlib.Core.List.{List, [], ◌∷◌}
use lib.ListN.{get_or}
use Rattle.wat.specs.declared.{LexError.LexError, Refusal.Refusal}
use Rattle.wat.specs.declared.LexError.TheVariants as error
use Rattle.wat.specs.declared.Refusal.TheVariants.{TooLong, NotUtf8, PastEnd, InsideCharacter, Lexical, NotThatToken, NotThatKind}
use Rattle.wat.specs.declared.Refusal.TheVariants.{BufferTooShort, NoMessage}
use Rattle.wat.specs.Cases.{number}
use Rattle.c_words.specs.Words.{refused_words}

-- by their numbers, with the values a and b; `NoMessage`, which has the last, where no other has the number
abbrev refusals : ℕ → ℕ → List Refusal
refusals a b =
    NoMessage ∷ TooLong ∷ NotUtf8 a b ∷ PastEnd ∷ InsideCharacter
    ∷ NoMessage ∷ NoMessage ∷ NoMessage ∷ NoMessage ∷ NoMessage
    ∷ Lexical error.DanglingBlockComment ∷ Lexical (error.Unexpected a) ∷ Lexical (error.InvalidStringElement a)
    ∷ Lexical (error.InvalidStringEscape a) ∷ Lexical (error.InvalidHexDigit a) ∷ NoMessage
    ∷ Lexical (error.Expected a b) ∷ Lexical error.UnexpectedEof ∷ Lexical error.NumberTooBig
    ∷ Lexical (error.InvalidUnicodeValue a) ∷ Lexical error.LoneUnderscore ∷ Lexical (error.ConfusingUnicode a)
    ∷ Lexical (error.InvalidUtf8Id a b) ∷ Lexical error.EmptyId ∷ Lexical error.EmptyAnnotation
    ∷ Lexical error.DoubleUnderscore ∷ NoMessage ∷ NoMessage ∷ NoMessage ∷ NoMessage
    ∷ NotThatToken ∷ NotThatKind ∷ BufferTooShort ∷ []

-- the refusal that five words are of
abbrev pub refusal_of : List ℕ → Refusal
refusal_of w = get_or (refusals (get_or w 3 0) (get_or w 4 0)) (get_or w 1 0) NoMessage

error_again : (e : LexError) (p : ℕ) → Lexical e ≡ refusal_of (refused_words (Lexical e) p)
error_again error.DanglingBlockComment p = refl
error_again (error.Unexpected c) p = refl
error_again (error.InvalidStringElement c) p = refl
error_again (error.InvalidStringEscape c) p = refl
error_again (error.InvalidHexDigit c) p = refl
error_again (error.Expected w c) p = refl
error_again error.UnexpectedEof p = refl
error_again error.NumberTooBig p = refl
error_again (error.InvalidUnicodeValue n) p = refl
error_again error.LoneUnderscore p = refl
error_again (error.ConfusingUnicode c) p = refl
error_again (error.InvalidUtf8Id v e) p = refl
error_again error.EmptyId p = refl
error_again error.EmptyAnnotation p = refl
error_again error.DoubleUnderscore p = refl

refusal_again : (r : Refusal) (p : ℕ) → r ≡ refusal_of (refused_words r p)
refusal_again TooLong p = refl
refusal_again (NotUtf8 v e) p = refl
refusal_again PastEnd p = refl
refusal_again InsideCharacter p = refl
refusal_again (Lexical e) p = error_again e p
refusal_again NotThatToken p = refl
refusal_again NotThatKind p = refl
refusal_again BufferTooShort p = refl
refusal_again NoMessage p = refl

-- words that are those of a refusal at a place are of no other, and at no other
pub refused_words_tell : (r q : Refusal) (p o : ℕ) → refused_words r p ≡ refused_words q o → (r ≡ q) × (p ≡ o)
refused_words_tell r q p o e =
    (refusal_again r p ∙ ap refusal_of e ∙ sym (refusal_again q o), ap (λ (w : List ℕ). get_or w 2 0) e)

-- the number in a refusal's words is that of the refusal that they are of: words with another number are of none
pub refused_number : (r : Refusal) (p : ℕ) (w : List ℕ) → refused_words r p ≡ w → (number (refusal_of w)).0 ≡ get_or w 1 0
refused_number r p w e =
    ap (λ (q : Refusal). (number q).0) (sym (refusal_again r p ∙ ap refusal_of e)) ∙ ap (λ (v : List ℕ). get_or v 1 0) e
