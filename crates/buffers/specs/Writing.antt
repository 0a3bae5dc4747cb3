-- Bytes written into a lent buffer at a place.
use Rattle.std.specs.Prelude.{ℕ, ◌+◌, ◌≤◌, ◌≡◌, List, ◌++◌, length, take, drop}
use Rattle.wat.specs.StringModel.{encode}

-- the buffer was d and is e: v stands at a place, and what stood before it and after it stays
pub record Put (d e : List ℕ) (to : ℕ) (v : List ℕ) : Type 0 where
  pub fits : to + length v ≤ length d
  pub is : e ≡ take to d ++ v ++ drop (to + length v) d

-- the same, and what is written ends at `end`
pub record Added (d e : List ℕ) (to : ℕ) (v : List ℕ) (end : ℕ) : Type 0 where
  pub put : Put d e to v
  pub ends : end ≡ to + length v

-- the bytes of the scalar value v stand there, and there are n of them
pub record Encoded (d e : List ℕ) (to v n : ℕ) : Type 0 where
  pub put : Put d e to (encode v)
  pub long : n ≡ length (encode v)
