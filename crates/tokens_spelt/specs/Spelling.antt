-- The words of a kind's line, as the code holds them.
use Rattle.std.specs.Prelude.{ℕ, ◌≡◌, List, ◌++◌}
use Rattle.wat.specs.declared.TokenKind.{TokenKind}
use Rattle.wat.specs.Bytes.{bytes}
use Rattle.tokens_spelt.specs.declared.Parts.{Parts}
use Rattle.tokens_spelt.specs.Details.{name, detail}

-- the parts are the words of a kind's line
pub record Parted (k : TokenKind) (p : Parts) : Type 0 where
  pub name : p.name.now ≡ name k ++ bytes " "
  pub detail : p.first.now ++ (p.second.now ++ p.third.now) ≡ detail k

-- the parts are the words of the line of each kind whose name is w and whose detail is `-`
abbrev pub Plain : List ℕ → Parts → Type 0
Plain w p = (k : TokenKind) → w ≡ name k ++ bytes " " → detail k ≡ bytes "-" → Parted k p
