-- Line ends over bytes: how many, given whether a CR stands before them (docs/RULES.md, 14). `proofs/LineLaws` shows
-- that they are the standard's newlines, read from left to right, and that they may be counted piece by piece.
use Rattle.std.specs.Prelude.{ℕ, ◌+◌, Bool, true, false, List, [], ◌∷◌, eqb}

abbrev pub line_feed : ℕ → Bool
line_feed x = eqb x 0x0A

abbrev pub carriage_return : ℕ → Bool
carriage_return x = eqb x 0x0D

-- the line ends that begin at a byte: one at a CR, and one at a LF unless it is the rest of a CR LF
unfoldable pub begins : Bool → ℕ → ℕ
begins cr x = elim (carriage_return x)
    [ true ↦ 1 | false ↦ elim (line_feed x) [ true ↦ elim cr [ true ↦ 0 | false ↦ 1 ] | false ↦ 0 ] ]

-- those of the bytes. For example `a CR LF LF` has 2, and `LF LF` 2, but 1 after a CR
unfoldable pub line_ends : Bool → List ℕ → ℕ
line_ends cr [] = 0
line_ends cr (x ∷ t) = begins cr x + line_ends (carriage_return x) t

-- whether a CR stands before what follows the bytes
unfoldable pub ends_in_return : Bool → List ℕ → Bool
ends_in_return cr [] = cr
ends_in_return cr (x ∷ t) = ends_in_return (carriage_return x) t
