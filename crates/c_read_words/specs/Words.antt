-- The answers of the readers and of the messages as words, for C: the layout that include/thallusweb.h explains.
use Rattle.std.specs.Prelude.{ℕ, List, [], ◌∷◌, ◌++◌, Some, None, Result, Ok, Err}
use Rattle.wat.specs.declared.{Sign.Sign, Refusal.Refusal}
use Rattle.wat_values.specs.declared.NameKind.{NameKind}
use Rattle.wat_values.specs.{Answered.Reading, Named.NameReading}
use Rattle.wat_values.specs.{IntegerSign.IntegerSign, FloatSign.FloatSign}
use Rattle.wat_values.specs.IntegerValue.{IntegerValue}
use Rattle.wat.specs.declared.Sign.TheVariants.{Unsigned, Plus, Minus}
use Rattle.wat.specs.declared.TokenKind.TheVariants as kind
use Rattle.wat_values.specs.declared.Part.TheVariants as part
use Rattle.wat_values.specs.declared.NameKind.TheVariants as name_of
use Rattle.wat.specs.Cases.{flag, kind_number}
use Rattle.wat_values.specs.Reading.{no_place, reading_of}
use Rattle.wat_values.specs.Integers.{out_of_range_number}
use Rattle.c_words.specs.Words.{refused_words}

-- what a reader answers of a token: 0 absent, 1 a part of the text, 2 a refusal, 3 a part of the buffer
abbrev pub reading_words : Reading → List ℕ
reading_words (Ok None) = 0 ∷ 0 ∷ 0 ∷ 0 ∷ 0 ∷ []
reading_words (Ok (Some (part.Text start len))) = 1 ∷ start ∷ len ∷ 0 ∷ 0 ∷ []
reading_words (Err e) = refused_words e.refusal e.place
reading_words (Ok (Some (part.Buffer start len))) = 3 ∷ start ∷ len ∷ 0 ∷ 0 ∷ []

-- the number of the kind of token that a name is of
abbrev pub kind_word : NameKind → ℕ
kind_word name_of.Id = kind_number kind.Id
kind_word name_of.Annotation = kind_number kind.Annotation

-- the same of an answer; 0 where it has no name
abbrev pub name_word : NameReading → ℕ
name_word (Err e) = 0
name_word (Ok n) = kind_word n.kind

-- what the name call answers of a token: the words of another reader's answer, and whose name it is
abbrev pub name_words : NameReading → List ℕ
name_words a = reading_words (reading_of a) ++ (name_word a ∷ [])

abbrev pub sign_word : Sign → ℕ
sign_word Unsigned = 0
sign_word Plus = 1
sign_word Minus = 2

abbrev pub integer_sign_words : IntegerSign → List ℕ
integer_sign_words (Err e) = refused_words e.refusal e.place
integer_sign_words (Ok s) = 1 ∷ sign_word s ∷ 0 ∷ 0 ∷ 0 ∷ []

-- the word of an integer, or a refusal; a literal that is out of range is one, and has no place and no values
abbrev pub integer_words : IntegerValue → List ℕ
integer_words (Err e) = refused_words e.refusal e.place
integer_words (Ok None) = 2 ∷ out_of_range_number ∷ no_place ∷ 0 ∷ 0 ∷ []
integer_words (Ok (Some v)) = 1 ∷ v ∷ 0 ∷ 0 ∷ 0 ∷ []

abbrev pub float_sign_words : FloatSign → List ℕ
float_sign_words (Err e) = refused_words e.refusal e.place
float_sign_words (Ok None) = 0 ∷ 0 ∷ 0 ∷ 0 ∷ 0 ∷ []
float_sign_words (Ok (Some n)) = 1 ∷ flag n 1 ∷ 0 ∷ 0 ∷ 0 ∷ []

-- a message of so many bytes, or a refusal, which has no place
abbrev pub message_words : Result ℕ Refusal → List ℕ
message_words (Ok n) = 1 ∷ n ∷ 0 ∷ 0 ∷ 0 ∷ []
message_words (Err r) = refused_words r 0
