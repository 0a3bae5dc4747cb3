-- The records of a listing, read again: what the bytes of the list say of each token (docs/RULES.md, 10).
use Rattle.std.specs.Prelude.{ℕ, zero, suc, ◌+◌, ◌*◌, List, [], ◌∷◌, take, drop}
use Rattle.wat.specs.{Division.record_size}

-- a number from its bytes, the least first
abbrev pub from_little : List ℕ → ℕ
from_little [] = 0
from_little (b ∷ t) = b + 256 * from_little t

-- the i-th record of a list, counted from 0
abbrev pub record_at : List ℕ → ℕ → List ℕ
record_at l i = take record_size (drop (record_size * i) l)

-- the length that it says, by its first four bytes
abbrev pub length_at : List ℕ → ℕ → ℕ
length_at l i = from_little (take 4 (record_at l i))

-- the kind's number that it says, by the two others
abbrev pub kind_at : List ℕ → ℕ → ℕ
kind_at l i = from_little (drop 4 (record_at l i))

-- where its token starts, counted from the listing's start: behind the lengths before it
abbrev pub offset_at : List ℕ → ℕ → ℕ
offset_at l zero = 0
offset_at l (suc i) = offset_at l i + length_at l i

-- the three words of a token, as C callers hand them on: the kind's number, the offset and the length. For example the
-- records of `(ab` are 01 00 00 00 04 00 and 02 00 00 00 08 00, and the words of the second are 8, 1, 2: a keyword of
-- two bytes, from byte 1 on
abbrev pub token_words : List ℕ → ℕ → List ℕ
token_words l i = kind_at l i ∷ offset_at l i ∷ length_at l i ∷ []
