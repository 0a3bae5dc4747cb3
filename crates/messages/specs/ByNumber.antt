-- The message of the error that a number and two values name, as a C caller passes them.
use Rattle.std.specs.Prelude.{ℕ, ◌^◌, ◌<◌, ◌≡◌, true, false, List, [], ◌∷◌, eqb, length, take, Result, Err}
use Rattle.wat.specs.declared.{LexError.LexError, Refusal.Refusal}
use Rattle.wat.specs.declared.Refusal.TheVariants.{Lexical, NoMessage}
use Rattle.wat.specs.Cases.{error_number}
use Rattle.messages.specs.Messages.{Tells}

-- the bits of an error's values, by its number: those of 22 are lengths
unfoldable pub bits : ℕ → ℕ
bits n = elim (eqb n 22) [ true ↦ 64 | false ↦ 32 ]

-- the error whose number is n, and whose values are the first of a and b, as many as it carries. Those have room in the
-- error's fields; what it does not carry may be any number
pub record Spelled (n a b : ℕ) (e : LexError) : Type 0 where
  pub numbered : (error_number e).0 ≡ n
  pub values : (error_number e).1 ≡ take (length (error_number e).1) (a ∷ b ∷ [])
  pub first : 0 < length (error_number e).1 → a < 2 ^ bits n
  pub second : 1 < length (error_number e).1 → b < 2 ^ bits n

-- the call by number and values: the message of the error that they name; 34 where they name none
pub data TellsBy (n a b : ℕ) (buffer : List ℕ) : Result ℕ Refusal → List ℕ → Type 0 where
  error :
      {e : LexError} {m : Result ℕ Refusal} {c : List ℕ} → Spelled n a b e → Tells (Lexical e) buffer m c
      → TellsBy n a b buffer m c
  none : ((e : LexError) → Spelled n a b e → ⊥) → TellsBy n a b buffer (Err NoMessage) buffer
