-- What is so of a form that folds, as a statement: its parentheses balance, and the forms in it fold inside it; and
-- what folding answers in a text that can be listed to its end.
use Rattle.std.specs.Prelude.{ℕ, ◌+◌, ◌≤◌, ◌<◌, ◌≡◌, List, [], ◌∷◌, ◌++◌, drop}
use Rattle.wat.specs.declared.{TokenKind.TokenKind, Settings.Settings}
use Rattle.wat.specs.declared.TokenKind.TheVariants as kind
use Rattle.wat.specs.Answers as answer
use Rattle.wat.specs.declared.Refusal.TheVariants.{NotThatKind}
use Rattle.wat_forms.specs.Folded.{Folded}
use Rattle.wat_forms.specs.Folded as folded
use Rattle.wat.specs.{Lexing.Lexed, Division.Piece, Division.Walked}
use Rattle.wat_forms.specs.Forms.{deepest, Form, Folds}

-- on which side of a form a token stands
pub data Side : Type 0 where
  opening : Side
  closing : Side
  neither : Side

abbrev pub side : TokenKind → Side
side kind.LineComment = neither
side kind.BlockComment = neither
side kind.Whitespace = neither
side kind.LParen = opening
side kind.RParen = closing
side kind.String = neither
side kind.Id = neither
side kind.Keyword = neither
side kind.Annotation = neither
side kind.Reserved = neither
side (kind.Integer i) = neither
side (kind.Float f) = neither

abbrev pub up : Side → ℕ
up opening = 1
up closing = 0
up neither = 0

abbrev pub down : Side → ℕ
down opening = 0
down closing = 1
down neither = 0

abbrev pub count : (Side → ℕ) → List Piece → ℕ
count f [] = 0
count f (t ∷ ts) = f (side t.kind) + count f ts

-- how many openings, and how many closings, are among the tokens
abbrev pub openings : List Piece → ℕ
openings ts = count up ts

abbrev pub closings : List Piece → ℕ
closings ts = count down ts

-- the tokens end in a closing, there are as many openings as closings, and in every shorter front more openings: so the
-- last closing is that of the first opening
pub record Balanced (ts : List Piece) : Type 0 where
  pub front : List Piece
  pub last : Piece
  pub ends : ts ≡ front ++ (last ∷ [])
  pub closes : side last.kind ≡ closing
  pub same : openings ts ≡ closings ts
  pub more : (u : Piece) (us : List Piece) (v : Piece) (vs : List Piece) → ts ≡ (u ∷ us) ++ (v ∷ vs)
      → closings (u ∷ us) < openings (u ∷ us)

-- the form from `start` to `end`: its tokens are those of the division from its start, they balance, and an opening
-- that is met on the way begins a form that folds, and ends inside
pub record WholeForm (σ : Settings) (text : List ℕ) (start end : ℕ) : Type 0 where
  pub tokens : List Piece
  pub walked : Walked σ text start end tokens
  pub form : Form deepest tokens
  pub balanced : Balanced tokens
  pub inner : (us : List Piece) (at n : ℕ) → Walked σ text start at us → at < end
      → Lexed σ (drop at text) (answer.Token kind.LParen n)
      → (past : ℕ) × Folds σ text at (folded.Past past) × (past ≤ end) × (start < at → past < end)

-- an answer that speaks of parentheses alone: the end of a form, 31, 41 or 42
pub data Structural : Folded → Type 0 where
  past : {at : ℕ} → Structural (folded.Past at)
  no_form : Structural (folded.Refused NotThatKind 0)
  too_deep : {p : ℕ} → Structural (folded.TooDeep p)
  unclosed : {p : ℕ} → Structural (folded.Unclosed p)
