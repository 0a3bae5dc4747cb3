-- A text and a position in it: what is left to read.
use Rattle.std.specs.Prelude.{ℕ, List}

pub record Left : Type 0 where
  pub text : List ℕ
  pub at : ℕ
