-- The words in which the theorems on folding in a piece of a text are said.
use Rattle.std.specs.Prelude.{ℕ, ◌+◌, ◌<◌, ◌≡◌, List, length}
use Rattle.wat.specs.declared.LexError.{LexError}
use Rattle.wat.specs.declared.LexError.TheVariants.{DanglingBlockComment, ConfusingUnicode}
use Rattle.wat.specs.declared.Refusal.TheVariants.{Lexical, NotThatKind}
use Rattle.wat_forms.specs.Folded.{Folded}
use Rattle.wat_forms.specs.Folded as folded

-- an answer for a position of a piece of a text that is also the text's: the end of a form, also where the piece ends
-- there; 31, where a byte of the piece follows the one at the position; an error other than 10 and 21, where more than
-- four bytes are left from its place on, which is more than a character has; 41, where a byte follows the opening
pub data DecidedFold (piece : List ℕ) (pos : ℕ) : Folded → Type 0 where
  past : {at : ℕ} → DecidedFold piece pos (folded.Past at)
  no_form : pos + 1 < length piece → DecidedFold piece pos (folded.Refused NotThatKind 0)
  fault : {e : LexError} {p : ℕ} → (e ≡ DanglingBlockComment → ⊥) → ((c : ℕ) → e ≡ ConfusingUnicode c → ⊥)
      → p + 4 < length piece → DecidedFold piece pos (folded.Refused (Lexical e) p)
  too_deep : {p : ℕ} → p + 1 < length piece → DecidedFold piece pos (folded.TooDeep p)

-- the same answer counted from n bytes further ahead; 31 has no place
pub data MovedFold (n : ℕ) : Folded → Folded → Type 0 where
  past : {at : ℕ} → MovedFold n (folded.Past at) (folded.Past (n + at))
  no_form : MovedFold n (folded.Refused NotThatKind 0) (folded.Refused NotThatKind 0)
  fault : {e : LexError} {p : ℕ} → MovedFold n (folded.Refused (Lexical e) p) (folded.Refused (Lexical e) (n + p))
  too_deep : {p : ℕ} → MovedFold n (folded.TooDeep p) (folded.TooDeep (n + p))
  unclosed : {p : ℕ} → MovedFold n (folded.Unclosed p) (folded.Unclosed (n + p))
