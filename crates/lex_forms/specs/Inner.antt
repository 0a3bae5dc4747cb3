-- What is answered from a place inside a form: the position past that form's closing, or what comes before it.
use Rattle.std.specs.Prelude.{ℕ, ◌+◌, ◌≡◌, List, [], ◌∷◌, ◌++◌, length, drop}
use Rattle.wat.specs.declared.{Settings.Settings, Fault.Fault}
use Rattle.wat.specs.declared.TokenKind.TheVariants as kind
use Rattle.wat.specs.declared.Refusal.TheVariants.{Lexical}
use Rattle.wat.specs.Answers as answer
use Rattle.wat_forms.specs.Folded.{Folded}
use Rattle.wat_forms.specs.Folded as folded
use Rattle.wat.specs.{Lexing.Lexed, Division.Piece, Division.Walked}
use Rattle.wat_forms.specs.Forms.{Closes, Forms, Inside}

-- the form may have d levels in it
pub data InnerFolds (σ : Settings) (text : List ℕ) (start d : ℕ) : Folded → Type 0 where
  past : {closing : Piece} {ts : List Piece} {at : ℕ} → Walked σ text start at (ts ++ (closing ∷ [])) → Forms d ts
      → Closes closing → InnerFolds σ text start d (folded.Past at)
  fault : {e : ℕ} {ts : List Piece} {at : ℕ} {f : Fault} → Walked σ text start at ts → Inside d e ts
      → Lexed σ (drop at text) (answer.Fault f)
      → InnerFolds σ text start d (folded.Refused (Lexical f.error) (at + f.place))
  too_deep : {ts : List Piece} {at n : ℕ} → Walked σ text start at ts → Inside d 0 ts
      → Lexed σ (drop at text) (answer.Token kind.LParen n) → InnerFolds σ text start d (folded.TooDeep at)
  left_open : {e : ℕ} {ts : List Piece} {at : ℕ} → Walked σ text start at ts → Inside d e ts → at ≡ length text
      → InnerFolds σ text start d (folded.Unclosed at)
