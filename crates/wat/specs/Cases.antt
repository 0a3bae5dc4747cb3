-- The number and the values of each case of the enums: kinds, errors and refusals (docs/RULES.md).
use Rattle.std.specs.Prelude.{ℕ, ◌+◌, Bool, true, false, List, [], ◌∷◌}
use Rattle.wat.specs.declared.{Sign.Sign, FloatKind.FloatKind, TokenKind.TokenKind}
use Rattle.wat.specs.declared.{LexError.LexError, Refusal.Refusal}
use Rattle.wat.specs.declared.Sign.TheVariants.{Unsigned, Plus, Minus}
use Rattle.wat.specs.declared.FloatKind.TheVariants.{Inf, Nan, NanVal, Normal}
use Rattle.wat.specs.declared.TokenKind.TheVariants as kind
use Rattle.wat.specs.declared.LexError.TheVariants as error
use Rattle.wat.specs.declared.Refusal.TheVariants as refusal

abbrev pub flag : Bool → ℕ → ℕ
flag true n = n
flag false n = 0

abbrev pub sign_number : Sign → ℕ
sign_number Unsigned = 0
sign_number Plus = 256
sign_number Minus = 512

abbrev pub float_number : FloatKind → ℕ
float_number (Inf n) = 12 + flag n 512
float_number (Nan n) = 13 + flag n 512
float_number (NanVal n u) = 14 + flag n 512 + flag u 1024
float_number (Normal u h) = 15 + flag u 1024 + flag h 2048

abbrev pub kind_number : TokenKind → ℕ
kind_number kind.LineComment = 1
kind_number kind.BlockComment = 2
kind_number kind.Whitespace = 3
kind_number kind.LParen = 4
kind_number kind.RParen = 5
kind_number kind.String = 6
kind_number kind.Id = 7
kind_number kind.Keyword = 8
kind_number kind.Annotation = 9
kind_number kind.Reserved = 10
kind_number (kind.Integer i) = 11 + sign_number i.sign + flag i.underscores 1024 + flag i.hex 2048
kind_number (kind.Float f) = float_number f

-- a case's number, and the values that it carries
abbrev pub error_number : LexError → ℕ × List ℕ
error_number error.DanglingBlockComment = (10, [])
error_number (error.Unexpected c) = (11, c ∷ [])
error_number (error.InvalidStringElement c) = (12, c ∷ [])
error_number (error.InvalidStringEscape c) = (13, c ∷ [])
error_number (error.InvalidHexDigit c) = (14, c ∷ [])
error_number (error.Expected w c) = (16, w ∷ c ∷ [])
error_number error.UnexpectedEof = (17, [])
error_number error.NumberTooBig = (18, [])
error_number (error.InvalidUnicodeValue n) = (19, n ∷ [])
error_number error.LoneUnderscore = (20, [])
error_number (error.ConfusingUnicode c) = (21, c ∷ [])
error_number (error.InvalidUtf8Id v e) = (22, v ∷ e ∷ [])
error_number error.EmptyId = (23, [])
error_number error.EmptyAnnotation = (24, [])
error_number error.DoubleUnderscore = (25, [])

abbrev pub number : Refusal → ℕ × List ℕ
number refusal.TooLong = (1, [])
number (refusal.NotUtf8 v e) = (2, v ∷ e ∷ [])
number refusal.PastEnd = (3, [])
number refusal.InsideCharacter = (4, [])
number (refusal.Lexical e) = error_number e
number refusal.NotThatToken = (30, [])
number refusal.NotThatKind = (31, [])
number refusal.BufferTooShort = (32, [])
number refusal.NoMessage = (34, [])

-- the number of a listing that stops for want of room; no `Refusal` is that
abbrev pub list_full : ℕ
list_full = 33
