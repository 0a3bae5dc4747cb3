-- A text that is divided from end to end, in one way only, and a listing that hands that out (docs/RULES.md, 10).
use Rattle.std.specs.Prelude.{ℕ, ◌*◌, ◌<◌, ◌≡◌, List, [], ◌∷◌, ◌++◌, length, take, drop}
use Rattle.wat.specs.declared.{Settings.Settings, Listed.Listed}
use Rattle.wat.specs.Lexing.{Longest}
use Rattle.wat.specs.Division.{Piece, Divided, record_size, records}

-- the bytes of the tokens, one after the other
abbrev pub joined : List ℕ → List Piece → List ℕ
joined s [] = []
joined s (t ∷ ts) = take t.len s ++ joined (drop t.len s) ts

-- none is empty
abbrev pub Some : List Piece → Type 0
Some [] = Unit {0}
Some (t ∷ ts) = (0 < t.len) × Some ts

-- each token is the longest start of what is left that is a token of any kind
abbrev pub Longests : List ℕ → List Piece → Type 0
Longests s [] = Unit {0}
Longests s (t ∷ ts) = Longest s t.kind t.len × Longests (drop t.len s) ts

-- the tokens are all of the text's bytes, none is empty, each is the longest, and no other tokens divide it
pub record Division (σ : Settings) (s : List ℕ) (ts : List Piece) : Type 0 where
  pub every_byte : joined s ts ≡ s
  pub none_empty : Some ts
  pub longest : Longests s ts
  pub only : (us : List Piece) → Divided σ s us [] → us ≡ ts

-- a listing's report r, and the list l afterwards: its tokens are the one division of the text, as many as were
-- counted, and the list has their records
pub record Whole (σ : Settings) (text : List ℕ) (list : List ℕ) (r : Listed) (l : List ℕ) : Type 0 where
  pub tokens : List Piece
  pub divided : Divided σ text tokens []
  pub division : Division σ text tokens
  pub counted : r.count ≡ length tokens
  pub recorded : l ≡ records text tokens ++ drop (record_size * length tokens) list
