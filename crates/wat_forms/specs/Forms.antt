-- Forms, and the call that finds a form's end (docs/RULES.md, 18). The standard gives forms no rule of their own: this
-- is what users asked for. Everything is said of the tokens of a division, so that a parenthesis in a comment or a
-- string is none.
use Rattle.std.specs.Prelude.{ℕ, suc, ◌+◌, ◌≡◌, List, [], ◌∷◌, ◌++◌, length, drop}
use Rattle.wat.specs.declared.{Settings.Settings, Fault.Fault, Refusal.Refusal}
use Rattle.wat.specs.declared.TokenKind.TheVariants as kind
use Rattle.wat.specs.declared.Refusal.TheVariants.{Lexical, NotThatKind}
use Rattle.wat.specs.Answers as answer
use Rattle.wat_forms.specs.Folded.{Folded}
use Rattle.wat_forms.specs.Folded as folded
use Rattle.wat.specs.{Lexing.Lexed, Calls.Stands, Calls.Rejected, Division.Piece, Division.Walked}

-- ---- forms

pub data Opens : Piece → Type 0 where
  opens : {n : ℕ} → Opens (record { kind = kind.LParen; len = n })

pub data Closes : Piece → Type 0 where
  closes : {n : ℕ} → Closes (record { kind = kind.RParen; len = n })

-- forms and other tokens, one after the other; the forms have at most d levels
pub data Forms : ℕ → List Piece → Type 0 where
  none : {d : ℕ} → Forms d []
  other : {d : ℕ} {t : Piece} {ts : List Piece} → (Opens t → ⊥) → (Closes t → ⊥) → Forms d ts → Forms d (t ∷ ts)
  form : {d : ℕ} {opening closing : Piece} {inner ts : List Piece} → Opens opening → Forms d inner → Closes closing
      → Forms (suc d) ts → Forms (suc d) (opening ∷ (inner ++ (closing ∷ ts)))

-- a form of at most d levels: an opening, forms of one level less and other tokens, a closing
pub data Form : ℕ → List Piece → Type 0 where
  form : {d : ℕ} {opening closing : Piece} {inner : List Piece} → Opens opening → Forms d inner → Closes closing
      → Form (suc d) (opening ∷ (inner ++ (closing ∷ [])))

-- what stands in a form that is open: forms and other tokens, and then perhaps another form that is open. The outer may
-- have d levels in it, and the innermost that is open e
pub data Inside : ℕ → ℕ → List Piece → Type 0 where
  here : {d : ℕ} {ts : List Piece} → Forms d ts → Inside d d ts
  deeper : {d e : ℕ} {opening : Piece} {ts us : List Piece} → Forms (suc d) ts → Opens opening → Inside d e us
      → Inside (suc d) e (ts ++ (opening ∷ us))

-- a form of at most d levels is begun, and still open; e levels more may be opened
pub data Begun : ℕ → ℕ → List Piece → Type 0 where
  begun : {d e : ℕ} {opening : Piece} {ts : List Piece} → Opens opening → Inside d e ts → Begun (suc d) e (opening ∷ ts)

-- ---- the call

-- how deep forms may stand in each other, the outermost being level 1
abbrev pub deepest : ℕ
deepest = 64

-- the numbers of its own two refusals; no `Refusal` is one of them
abbrev pub too_deep_number : ℕ
too_deep_number = 41

abbrev pub unclosed : ℕ
unclosed = 42

-- why folding that has walked over the tokens `ts` to `at` answers what it does there: they are a form, or one is begun
pub data Halts (σ : Settings) (text : List ℕ) (ts : List Piece) (at : ℕ) : Folded → Type 0 where
  past : Form deepest ts → Halts σ text ts at (folded.Past at)
  -- 10 to 21, 25: a form is begun, and then comes an error
  fault : {e : ℕ} {f : Fault} → Begun deepest e ts → Lexed σ (drop at text) (answer.Fault f)
      → Halts σ text ts at (folded.Refused (Lexical f.error) (at + f.place))
  -- 41: a form is begun, and then comes an opening for which no level is left
  too_deep : {n : ℕ} → Begun deepest 0 ts → Lexed σ (drop at text) (answer.Token kind.LParen n)
      → Halts σ text ts at (folded.TooDeep at)
  -- 42: a form is begun, and then the text ends
  left_open : {e : ℕ} → Begun deepest e ts → at ≡ length text → Halts σ text ts at (folded.Unclosed at)

-- `fold`, for a position: what comes first in reading order. Of `(a (b))`, from 0, the tokens up to 7 are a form, so
-- the answer is 7; of `(a (b)`, from 0, all tokens are a form that is begun, and there the text ends: 42, at 6
pub data Folds (σ : Settings) (text : List ℕ) (pos : ℕ) : Folded → Type 0 where
  -- 1 to 4
  rejected : {r : Refusal} {p : ℕ} → Rejected text pos r p → Folds σ text pos (folded.Refused r p)
  -- 31, which has no place: no form begins there, be it another token, an error or the end
  elsewhere : Stands text pos → ((n : ℕ) → Lexed σ (drop pos text) (answer.Token kind.LParen n) → ⊥)
      → Folds σ text pos (folded.Refused NotThatKind 0)
  walks : {ts : List Piece} {at : ℕ} {a : Folded} → Stands text pos → Walked σ text pos at ts → Halts σ text ts at a
      → Folds σ text pos a
