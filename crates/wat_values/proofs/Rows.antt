-- Texts on both sides of the line, and what the definitions say of each: one statement over one table. Assumes nothing.
use Prim.Native.Nat.{ℕ}
use Prim.Native.String.{String}
use mathlib.Core.Path.{◌≡◌, refl, subst}
use mathlib.Core.Bool.{true, false}
use mathlib.Core.List.{List, [], ◌∷◌, map}
use lib.ListN.{drop}
use Rattle.std.specs.Prelude.{Some, None, Ok, Err}
use Rattle.wat.specs.Faults.{fault}
use Rattle.wat.specs.declared.FloatKind.TheVariants.{Normal}
use Rattle.wat.specs.declared.Sign.TheVariants.{Unsigned}
use Rattle.wat.specs.declared.TokenKind.{TokenKind}
use Rattle.wat.specs.declared.TokenKind.TheVariants as kind
use Rattle.wat.specs.declared.LexError.TheVariants.{DanglingBlockComment, InvalidHexDigit, NumberTooBig, InvalidUnicodeValue}
use Rattle.wat.specs.declared.LexError.TheVariants.{LoneUnderscore, EmptyId, DoubleUnderscore}
use Rattle.wat.specs.declared.Settings.{Settings}
use Rattle.wat.specs.Answers.{Answer, End, Token, Fault}
use Rattle.std.specs.Prelude.{Ok}
use Rattle.wat.specs.Bytes.{bytes, between, has}
use Rattle.wat.specs.Settings.{plain}
use Rattle.wat.specs.Numbers.{digit, marks, Digits, Signed, Fraction, Exponent}
use Rattle.wat.specs.NumberModel.{classify, run, strip, after_dot, fraction, sign_of, after_sign, exponent, at_end, then, decide}
use Rattle.wat.specs.NumberModel.{finite, is, nothing_left, payload, unsigned}
use Rattle.wat.specs.Utf8.{WellFormed, Says, scalar, table}
use Rattle.wat.specs.Utf8Model.{front, scan, checked}
use Rattle.wat.specs.Chars.{idchar, letter, space, newline, punctuation, confusing, control, is_scalar}
use Rattle.wat.specs.Strings.{escapes, Elems, Str}
use Rattle.wat.specs.StringModel.{peek, hex_of, digits, encode, close_by, number_by}
use Rattle.wat.specs.StringModel.{first_by, brace_by, second_by, escape_by, hides, read_by}
use Rattle.wat.specs.StringModel.{read}
use Rattle.wat.specs.RunModel.{body, walk}
use Rattle.wat.specs.CommentModel.{opens, ends}
use Rattle.wat.specs.LexModel.{family, count, word, whole, quoted_kind, run_kind, kind_of, hidden, comment, lex}
use Rattle.wat.specs.Lexing.{Lexed}
use Rattle.wat_values.specs.Values.{Reader, Sigil, Value, part, absent, refused, copy_or_part, bare, Name, Split, Reads}
use Rattle.wat_values.specs.declared.FloatPart.TheVariants as the
use Rattle.wat_values.specs.Values as reader
use Rattle.wat.specs.Division.{Divided}
use Rattle.wat.specs.Whole.{Division}
use Rattle.wat.proofs.Utf8Laws.{checked_says}
use Rattle.wat_laws.proofs.Total.{lexed}
use Rattle.wat_laws.proofs.Divisions.{one_division}

abbrev All : {A : Type 0} → (A → Type 0) → List A → Type 0
All P [] = Unit {0}
All P (x ∷ xs) = P x × All P xs

-- settings, a text, its answer under them, and what readers leave of the token
pub record Row : Type 0 where
  pub settings : Settings
  pub text : List ℕ
  pub answer : Answer
  pub reads : List (Reader × Value)

-- under the settings of a new lexer
abbrev row : String → Answer → Row
row t a = record { settings = plain; text = bytes t; answer = a; reads = [] }

-- and where digits are strict
abbrev strict : Settings
strict = record { allow_confusing = false; strict_digits = true }

abbrev strictly : String → Answer → Row
strictly t a = record { settings = strict; text = bytes t; answer = a; reads = [] }

abbrev float : TokenKind
float = kind.Float (Normal false false)

unfoldable pub rows : List Row
rows =
    row "" End
    ∷ row "(;)" (Fault (fault DanglingBlockComment 0 0))
    ∷ row "(;;)" (Token kind.BlockComment 4)
    ∷ row "(;(;;)" (Fault (fault DanglingBlockComment 0 0))
    ∷ row "1__0" (Token kind.Reserved 4)
    ∷ record {
      settings = plain;
      text = bytes "1.";
      answer = Token float 2;
      reads =
          (reader.float the.Integral, part 0 (bytes "1")) ∷ (reader.float the.Exponent, absent) ∷ [];
    }
    ∷ record {
      settings = plain;
      text = bytes "1.e5";
      answer = Token float 4;
      reads =
          (reader.float the.Integral, part 0 (bytes "1")) ∷ (reader.float the.Exponent, part 3 (bytes "5")) ∷ [];
    }
    ∷ row "nan:0x" (Token kind.Keyword 6)
    ∷ row "+nan:0x" (Token kind.Reserved 7)
    ∷ row "a\"x\"" (Token kind.Reserved 4)
    ∷ row "\"a\"\"b\"" (Token kind.Reserved 6)
    ∷ record {
      settings = plain;
      text = bytes "$\"\"";
      answer = Token kind.Id 3;
      reads = (reader.name, refused [] EmptyId) ∷ [];
    }
    ∷ row "\"\\u{d800}\"" (Fault (fault (InvalidUnicodeValue 0xD800) 7 8))
    ∷ row "\"\\u{1_}\"" (Fault (fault LoneUnderscore 5 6))
    ∷ row "\"\\u{1__0}\"" (Token kind.String 10)
    ∷ strictly "\"\\u{1__0}\"" (Fault (fault DoubleUnderscore 6 7))
    ∷ strictly "\"\\u{1_0}\"" (Token kind.String 9)
    ∷ strictly "\"\\u{1__}\"" (Fault (fault DoubleUnderscore 6 7))
    ∷ strictly "\"\\u{1___0}\"" (Fault (fault DoubleUnderscore 6 7))
    ∷ strictly "\"\\u{d8__00}\"" (Fault (fault DoubleUnderscore 7 8))
    ∷ strictly "\"\\u{1_}\"" (Fault (fault LoneUnderscore 5 6))
    ∷ strictly "\"\\u{_1}\"" (Fault (fault (InvalidHexDigit 0x5F) 4 5))
    ∷ strictly "\"\\u{100000000__}\"" (Fault (fault NumberTooBig 12 13))
    ∷ strictly "1__0" (Token kind.Reserved 4)
    ∷ []

-- what the definitions say of a row: what readers leave of its token, or that no tokens are its one division
abbrev Leaves : Settings → Answer → List ℕ → List (Reader × Value) → Type 0
Leaves σ (Ok (Some l)) w rs = All (λ r. Reads r.0 l.kind w r.1) rs
Leaves σ (Ok None) w rs = Division σ w []
Leaves σ (Err f) w rs = Unit {0}

abbrev LeavesOf : Row → Type 0
LeavesOf r = Leaves r.settings r.answer r.text r.reads

abbrev Holds : Row → Type 0
Holds r = Lexed r.settings r.text r.answer × LeavesOf r

-- the model gives each row's answer, and each row's text is well formed
rows_right : map (λ (r : Row). lex r.settings r.text) rows ≡ map (λ (r : Row). r.answer) rows
unfolding rows classify run strip after_dot fraction sign_of after_sign exponent at_end then decide finite is
    nothing_left payload unsigned digit between marks has scalar table front idchar letter space newline
    punctuation confusing control is_scalar escapes peek hex_of digits encode close_by number_by first_by brace_by
    second_by escape_by hides read_by read body walk opens ends family count word whole quoted_kind run_kind kind_of
    hidden comment lex
rows_right = refl

rows_formed : map (λ (r : Row). checked r.text) rows ≡ map (λ (r : Row). Ok tt) rows
unfolding rows table front scan checked
rows_formed = refl

-- what the readers leave, put together by the rules
one : Digits false (bytes "1")
unfolding digit between
one = Digits.last refl

five : Exponent false (bytes "e5")
unfolding digit between marks
five = Exponent.power refl Signed.unsigned (Digits.last refl)

dot : Split false (bytes "1.") Unsigned [] (bytes "1") (bytes ".") []
dot = record { signed = Signed.unsigned; whole = one; after = Fraction.dot; power = Exponent.none; is = refl }

power : Split false (bytes "1.e5") Unsigned [] (bytes "1") (bytes ".") (bytes "e5")
power = record { signed = Signed.unsigned; whole = one; after = Fraction.dot; power = five; is = refl }

dot_reads : Leaves plain (Token float 2) (bytes "1.")
    ((reader.float the.Integral, part 0 (bytes "1")) ∷ (reader.float the.Exponent, absent) ∷ [])
unfolding copy_or_part bare digit between marks has dot
dot_reads = (Reads.an_integral dot, (Reads.no_exponent dot, tt))

power_reads : Leaves plain (Token float 4) (bytes "1.e5")
    ((reader.float the.Integral, part 0 (bytes "1")) ∷ (reader.float the.Exponent, part 3 (bytes "5")) ∷ [])
unfolding copy_or_part bare digit between marks has power five
power_reads = (Reads.an_integral power, (Reads.an_exponent power Signed.unsigned (Digits.last refl), tt))

nothing_read : Leaves plain (Token kind.Id 3) (bytes "$\"\"") ((reader.name, refused [] EmptyId) ∷ [])
nothing_read = (Reads.a_name Sigil.id (Name.quoted_nothing (Str.quoted Elems.none)), tt)

-- of the last rows nothing is read
unread : All LeavesOf (drop 12 rows)
unfolding rows
unread = (tt, (tt, (tt, (tt, (tt, (tt, (tt, (tt, (tt, (tt, (tt, (tt, tt))))))))))))

rows_read : All LeavesOf rows
unfolding rows
rows_read = (
  one_division Divided.none,
  (tt, (tt, (tt, (tt, (dot_reads, (power_reads, (tt, (tt, (tt, (tt, (nothing_read, unread))))))))))),
)

-- each row holds
by_model : (rs : List Row) → map (λ (r : Row). lex r.settings r.text) rs ≡ map (λ (r : Row). r.answer) rs
    → map (λ (r : Row). checked r.text) rs ≡ map (λ (r : Row). Ok tt) rs
    → All LeavesOf rs → All Holds rs
by_model [] e f m = tt
by_model (r ∷ rs) e f m =
    let h : lex r.settings r.text ≡ r.answer = cc in
    let g : checked r.text ≡ Ok tt = cc in
    let w : WellFormed r.text = subst (Says r.text) g (checked_says r.text) in
    ((rw h at (lexed r.settings w), m.0), by_model rs (cc) (cc) m.1)

pub rows_hold : All Holds rows
rows_hold = by_model rows rows_right rows_formed rows_read
