-- Which names the reader of Id and Annotation tokens refuses, by 22 to 24 (docs/RULES.md, 11).
use Rattle.std.specs.Prelude.{ℕ, true, List, [], ◌∷◌}
use Rattle.wat.specs.declared.{TokenKind.TokenKind, LexError.LexError}
use Rattle.wat.specs.Checked.{Bad}
use Rattle.wat.specs.declared.LexError.TheVariants.{InvalidUtf8Id}
use Rattle.wat_values.specs.declared.NameKind.{NameKind}
use Rattle.wat.specs.{Bytes.Each, Settings.lenient, Utf8.Says, Chars.idchar, Strings.Str}
use Rattle.wat_values.specs.Values.{Reader, Sigil, empty_name}

-- a token's name: its bytes after the first, or what a string there stands for
pub data Names : List ℕ → List ℕ → Type 0 where
  word : {x : ℕ} {w : List ℕ} → Each idchar true w → Names (x ∷ w) w
  quoted : {x : ℕ} {w name : List ℕ} → Str lenient w name → Names (x ∷ w) name

-- the error with which a reader refuses a token: 23 or 24 where the name is empty, 22 where it is not UTF-8
pub data Misnamed : Reader → List ℕ → LexError → Type 0 where
  empty : {n : NameKind} {k : TokenKind} {x : ℕ} {w : List ℕ} → Sigil n k x → Names (x ∷ w) []
      → Misnamed Reader.name (x ∷ w) (empty_name n)
  wrong : {w name : List ℕ} {n l : ℕ} → Names w name → Says name (Bad n l)
      → Misnamed Reader.name w (InvalidUtf8Id n l)
