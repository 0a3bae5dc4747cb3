-- The lines that `wat-tokens` prints (docs/RULES.md, 15).
use Rattle.std.specs.Prelude.{ℕ, zero, suc, ◌+◌, ◌/◌, ◌%◌, true, false, List, [], ◌∷◌, ◌++◌, ltb}
use Rattle.wat.specs.declared.TokenKind.{TokenKind}
use Rattle.wat.specs.Bytes.{bytes, byte}
use Rattle.wat.specs.Division.{Piece}
use Rattle.tokens_spelt.specs.Details.{name, detail}

-- a number in decimal; the first argument bounds its figures
unfoldable pub decimal_by : ℕ → ℕ → List ℕ
decimal_by zero n = (byte "0" + n) ∷ []
decimal_by (suc k) n =
    elim (ltb n 10) [ true ↦ (byte "0" + n) ∷ [] | false ↦ decimal_by k (n / 10) ++ ((byte "0" + n % 10) ∷ []) ]

unfoldable pub decimal : ℕ → List ℕ
decimal n = decimal_by n n

abbrev pub header : List ℕ
header = bytes "kind offset length detail\n"

-- the line of a token
unfoldable pub line : TokenKind → ℕ → ℕ → List ℕ
line k offset len =
    name k ++ (bytes " " ++ (decimal offset ++ (bytes " " ++ (decimal len ++ (bytes " " ++ (detail k ++ bytes "\n"))))))

-- the lines of tokens that stand one after the other
unfoldable pub lines : ℕ → List Piece → List ℕ
lines offset [] = []
lines offset (t ∷ ts) = line t.kind offset t.len ++ lines (offset + t.len) ts

-- the last line: a word with a space, and two numbers
unfoldable pub last_line : List ℕ → ℕ → ℕ → List ℕ
last_line word a b = word ++ (decimal a ++ (bytes " " ++ (decimal b ++ bytes "\n")))
