-- What the front of a word tells of its kind.
use Rattle.std.specs.Prelude.{ℕ, Bool, false, ◌&&◌, ◌||◌, List, [], ◌∷◌, eqb}
use Rattle.wat.specs.Bytes.{byte}
use Rattle.wat.specs.LexModel.{next}

-- the bytes begin as `inf` and `nan` do, by the first two of them
abbrev pub lettered : List ℕ → Bool
lettered [] = false
lettered (x ∷ t) = (eqb x (byte "i") && next (byte "n") t) || (eqb x (byte "n") && next (byte "a") t)
