-- What the readers of one element answer, in the terms of wat's model.
use Rattle.std.specs.Prelude.{ℕ, suc, ◌+◌, ◌≤◌, ◌<◌, ◌≡◌, List, [], ◌∷◌, length}
use Rattle.wat.specs.declared.{Fault.Fault, Num.Num}
use Rattle.wat.specs.declared.Num.TheVariants.{Is, Lone, Big, Double}
use Rattle.wat.specs.StringModel as model
use Rattle.lex_escapes.specs.declared.Read.{Read}
use Rattle.lex_escapes.specs.declared.Read.TheVariants.{Byte, Char, Quote, Refused}

-- how many bytes are consumed
abbrev pub consumed : Num → ℕ
consumed (Is n k) = k
consumed (Lone k) = k
consumed (Big k) = suc k
consumed (Double k) = suc k

-- r says the number m of which one digit stands before t
pub record Counted (t : List ℕ) (m r : Num) : Type 0 where
  pub is : r ≡ m
  pub some : 1 ≤ consumed r
  pub fits : consumed r ≤ 1 + length t

-- at the front of t stands an element of n bytes for v
pub record Element (t : List ℕ) (m : model.Read) (n : ℕ) (v : List ℕ) : Type 0 where
  pub is : m ≡ model.element n v
  pub some : 1 ≤ n
  pub fits : n ≤ length t
  pub short : length v ≤ n

-- what stands at the front of t is refused
pub record Refuses (t : List ℕ) (m : model.Read) (f : Fault) : Type 0 where
  pub is : m ≡ model.refused f
  pub order : f.place ≤ f.after
  pub fits : f.after ≤ length t

-- r says what the model reads at the front of t
abbrev pub Says : List ℕ → model.Read → Read → Type 0
Says t m (Byte b n) = Element t m n (b ∷ [])
Says t m (Char c n) = Element t m n (model.encode c) × (c < 0x110000)
Says t m Quote = (m ≡ model.quote) × (1 ≤ length t)
Says t m (Refused f) = Refuses t m f
