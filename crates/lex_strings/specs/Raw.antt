-- What the fast paths answer: characters that stand for themselves, and two digits.
use Rattle.std.specs.Prelude.{ℕ, ◌+◌, ◌-◌, ◌≤◌, ◌<◌, List, [], ◌∷◌, length, take, drop}
use Rattle.wat.specs.declared.Settings.{Settings}
use Rattle.wat.specs.Strings.{Elem, Elems}
use Rattle.wat.specs.StringModel as model
use Rattle.lex_escapes.specs.Elements.{Element}

-- the n bytes at a place are an element that stands for itself, under any settings
pub record Raw (s : List ℕ) (at n : ℕ) : Type 0 where
  pub some : 1 ≤ n
  pub fits : at + n ≤ length s
  pub is : (σ : Settings) → Elem σ (take n (drop at s)) (take n (drop at s))

-- the bytes from `at` to r are elements that stand for themselves, under any settings
pub record Raws (s : List ℕ) (at r : ℕ) : Type 0 where
  pub order : at ≤ r
  pub fits : r ≤ length s
  pub are : (σ : Settings) → Elems σ (take (r - at) (drop at s)) (take (r - at) (drop at s))

-- a byte r stands as two digits at the front of t
abbrev pub Pairs : List ℕ → ℕ → Type 0
Pairs t r = (σ : Settings) → Element t (model.read σ t) 3 (r ∷ [])
