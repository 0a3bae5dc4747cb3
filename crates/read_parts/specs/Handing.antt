-- A number's parts at places in a text, and what it is to hand one over.
use Rattle.std.specs.Prelude.{ℕ, ◌+◌, ◌≤◌, ◌≡◌, Bool, true, ◌||◌, List, ◌++◌, length, Option, Some, None}
use Rattle.std.proofs.Math.Seq.{slice}
use Rattle.wat.specs.declared.{Sign.Sign, TokenKind.TokenKind}
use Rattle.wat_values.specs.Answered.{Reading}
use Rattle.wat.specs.Bytes.{byte, has}
use Rattle.wat_values.specs.Reading.{Handed}
use Rattle.lex_numbers.specs.declared.Skipped.{Skipped}
use Rattle.wat.specs.Numbers.{nan_colon, Digits, Signed}
use Rattle.wat_values.specs.Values.{Reader, Value, copy_or_part, bare, dropped, kept, Split, Reads}

-- the bytes from `at` to `end` are a P
pub record At (P : List ℕ → Type 0) (text : List ℕ) (at end : ℕ) : Type 0 where
  pub order : at ≤ end
  pub fits : end ≤ length text
  pub is : P (slice at end text)

abbrev pub Payload : List ℕ → Type 0
Payload w = (sign : Sign) × (u s : List ℕ) × Signed sign u × (w ≡ u ++ (nan_colon ++ s))

-- the bytes from a place to `end`
pub record Left (text : List ℕ) (end : ℕ) (s : List ℕ) (i : ℕ) : Type 0 where
  pub within : i ≤ end
  pub same : slice i end text ≡ s

-- what is left of the number from `at` to `end` after some of its parts, for every split of it
abbrev pub Leaves : Bool → List ℕ → ℕ → ℕ → (List ℕ → List ℕ → List ℕ → List ℕ) → ℕ → Type 0
Leaves hex text at end rest i =
    (sign : Sign) (u p f e : List ℕ) → Split hex (slice at end text) sign u p f e → Left text end (rest p f e) i

-- each value that the reader leaves of the token of a kind from `at` to `end`, handed over
abbrev pub Hands : Reader → TokenKind → List ℕ → ℕ → ℕ → List ℕ → Reading → List ℕ → Type 0
Hands reader k text at end buffer r after =
    (v : Value) → Reads reader k (slice at end text) v → Handed at v buffer r after

-- the digits before the point of the number from `at` to `end`, a copy if they are hexadecimal or there are underscores
abbrev pub HandsWhole : Bool → Bool → List ℕ → ℕ → ℕ → List ℕ → Reading → List ℕ → Type 0
HandsWhole hex underscores text at end buffer r after =
    (sign : Sign) (u p f e : List ℕ) → Split hex (slice at end text) sign u p f e
    → underscores ≡ has (byte "_") (slice at end text)
    → Handed at (copy_or_part (hex || underscores) (length (dropped sign)) (kept sign ++ bare p)) buffer r after

-- the digits of a NaN from `at` to `end`, a copy if there are underscores
abbrev pub HandsPayload : Bool → List ℕ → ℕ → ℕ → List ℕ → Reading → List ℕ → Type 0
HandsPayload underscores text at end buffer r after =
    (sign : Sign) (u s : List ℕ) → Signed sign u → Digits true s → slice at end text ≡ u ++ (nan_colon ++ s)
    → underscores ≡ has (byte "_") (slice at end text)
    → Handed at (copy_or_part underscores (length (u ++ nan_colon)) (bare s)) buffer r after

-- where a part that begins at `from` ends, and `end` if there is none
abbrev pub end_of : Option Skipped → ℕ → ℕ → ℕ
end_of None from end = end
end_of (Some d) from end = from + d.at
