-- How long the words of a kind are. Assumes nothing.
use Prim.Native.Nat.{◌+◌, ◌≤◌}
use mathlib.Core.Path.{ap}
use mathlib.Core.Bool.{Bool, true, false}
use mathlib.Core.List.{◌++◌}
use native.Mathlib.Omega.{arith}
use lib.ListN.{length, length-append}
use Rattle.wat.specs.declared.{Sign.Sign, TokenKind.TokenKind}
use Rattle.wat.specs.declared.Sign.TheVariants.{Unsigned, Plus, Minus}
use Rattle.wat.specs.declared.FloatKind.TheVariants.{Inf, Nan, NanVal, Normal}
use Rattle.wat.specs.declared.TokenKind.TheVariants as kind
use Rattle.wat.specs.Bytes.{bytes}
use Rattle.tokens_spelt.specs.declared.Parts.{Parts}
use Rattle.tokens_spelt.specs.Details.{sign_word, polarity_word, base_word, spelling_word, name, detail, longest_name, longest_detail}
use Rattle.tokens_spelt.specs.Spelling.{Parted}

pub name_short : (k : TokenKind) → length (name k) + 1 ≤ longest_name
name_short kind.LineComment = omega arith
name_short kind.BlockComment = omega arith
name_short kind.Whitespace = omega arith
name_short kind.LParen = omega arith
name_short kind.RParen = omega arith
name_short kind.String = omega arith
name_short kind.Id = omega arith
name_short kind.Keyword = omega arith
name_short kind.Annotation = omega arith
name_short kind.Reserved = omega arith
name_short (kind.Integer i) = omega arith
name_short (kind.Float (Inf n)) = omega arith
name_short (kind.Float (Nan n)) = omega arith
name_short (kind.Float (NanVal n u)) = omega arith
name_short (kind.Float (Normal u h)) = omega arith

sign_short : (s : Sign) → length (sign_word s) ≤ 5
sign_short Unsigned = omega arith
sign_short Plus = omega arith
sign_short Minus = omega arith

polarity_short : (b : Bool) → length (polarity_word b) ≤ 3
polarity_short true = omega arith
polarity_short false = omega arith

base_short : (b : Bool) → length (base_word b) ≤ 3
base_short true = omega arith
base_short false = omega arith

spelling_short : (b : Bool) → length (spelling_word b) ≤ 11
spelling_short true = omega arith
spelling_short false = omega arith

pub detail_short : (k : TokenKind) → length (detail k) ≤ longest_detail
detail_short kind.LineComment = omega arith
detail_short kind.BlockComment = omega arith
detail_short kind.Whitespace = omega arith
detail_short kind.LParen = omega arith
detail_short kind.RParen = omega arith
detail_short kind.String = omega arith
detail_short kind.Id = omega arith
detail_short kind.Keyword = omega arith
detail_short kind.Annotation = omega arith
detail_short kind.Reserved = omega arith
detail_short (kind.Integer i) =
    simp length-append (omega (arith, sign_short i.sign, base_short i.hex, spelling_short i.underscores))
detail_short (kind.Float (Inf n)) = omega (arith, polarity_short n)
detail_short (kind.Float (Nan n)) = omega (arith, polarity_short n)
detail_short (kind.Float (NanVal n u)) = simp length-append (omega (arith, polarity_short n, spelling_short u))
detail_short (kind.Float (Normal u h)) = simp length-append (omega (arith, base_short h, spelling_short u))

-- how long the words of a line are
pub record Short (p : Parts) : Type 0 where
  pub name : length p.name.now ≤ longest_name
  pub detail : length p.first.now + length p.second.now + length p.third.now ≤ longest_detail

pub parted_short : {k : TokenKind} {p : Parts} → Parted k p → Short p
parted_short {k} {p} q =
    let l = length-append p.first.now (p.second.now ++ p.third.now) in
    let m = length-append p.second.now p.third.now in
    record {
      name = omega (arith, ap length q.name, length-append (name k) (bytes " "), name_short k);
      detail = omega (arith, detail_short k, ap length q.detail);
    }
