-- The name of a kind and its detail, as `wat-tokens` prints them (docs/RULES.md, 15).
use Rattle.std.specs.Prelude.{ℕ, Bool, true, false, List, ◌++◌, length}
use Rattle.wat.specs.declared.{Sign.Sign, TokenKind.TokenKind}
use Rattle.wat.specs.declared.Sign.TheVariants.{Unsigned, Plus, Minus}
use Rattle.wat.specs.declared.FloatKind.TheVariants.{Inf, Nan, NanVal, Normal}
use Rattle.wat.specs.declared.TokenKind.TheVariants as kind
use Rattle.wat.specs.Bytes.{bytes}

abbrev pub sign_word : Sign → List ℕ
sign_word Unsigned = bytes "none"
sign_word Plus = bytes "plus"
sign_word Minus = bytes "minus"

abbrev pub polarity_word : Bool → List ℕ
polarity_word true = bytes "neg"
polarity_word false = bytes "pos"

abbrev pub base_word : Bool → List ℕ
base_word true = bytes "hex"
base_word false = bytes "dec"

abbrev pub spelling_word : Bool → List ℕ
spelling_word true = bytes "underscores"
spelling_word false = bytes "plain"

abbrev pub name : TokenKind → List ℕ
name kind.LineComment = bytes "line-comment"
name kind.BlockComment = bytes "block-comment"
name kind.Whitespace = bytes "whitespace"
name kind.LParen = bytes "lparen"
name kind.RParen = bytes "rparen"
name kind.String = bytes "string"
name kind.Id = bytes "id"
name kind.Keyword = bytes "keyword"
name kind.Annotation = bytes "annotation"
name kind.Reserved = bytes "reserved"
name (kind.Integer i) = bytes "integer"
name (kind.Float (Inf n)) = bytes "inf"
name (kind.Float (Nan n)) = bytes "nan"
name (kind.Float (NanVal n u)) = bytes "nan-val"
name (kind.Float (Normal u h)) = bytes "normal"

abbrev pub detail : TokenKind → List ℕ
detail kind.LineComment = bytes "-"
detail kind.BlockComment = bytes "-"
detail kind.Whitespace = bytes "-"
detail kind.LParen = bytes "-"
detail kind.RParen = bytes "-"
detail kind.String = bytes "-"
detail kind.Id = bytes "-"
detail kind.Keyword = bytes "-"
detail kind.Annotation = bytes "-"
detail kind.Reserved = bytes "-"
detail (kind.Integer i) =
    sign_word i.sign ++ (bytes "," ++ (base_word i.hex ++ (bytes "," ++ spelling_word i.underscores)))
detail (kind.Float (Inf n)) = polarity_word n
detail (kind.Float (Nan n)) = polarity_word n
detail (kind.Float (NanVal n u)) = polarity_word n ++ (bytes "," ++ spelling_word u)
detail (kind.Float (Normal u h)) = base_word h ++ (bytes "," ++ spelling_word u)

-- how long the longest name is, with a space after it, and the longest detail
abbrev pub longest_name : ℕ
longest_name = length (bytes "block-comment ")

abbrev pub longest_detail : ℕ
longest_detail = length (bytes "minus,hex,underscores")
