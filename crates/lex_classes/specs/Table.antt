-- What the table of 256 classes says of each byte: every question about a byte, answered from its class. Classes are
-- 0 control characters but for the white ones, 1 white space, 2 bytes beyond ASCII, 3 `"`, 4 `(`, 5 `)`, 6 `;`, 7 the
-- other punctuation; and of idchars 9 digits, 10 A to F, 11 a to f, 12 g to z, 13 `\`, 8 the others.
use Rattle.std.specs.Prelude.{ℕ, ◌<◌, ◌≡◌, Bool, true, false, ◌&&◌, ◌||◌, not, List, eqb, leb, get_or}
use Rattle.wat.specs.declared.Family.{Family}
use Rattle.wat.specs.declared.Family.TheVariants as family
use Rattle.wat.specs.Bytes.{between}
use Rattle.wat.specs.Chars as chars
use Rattle.wat.specs.Numbers as numbers
use Rattle.wat.specs.LexModel as model
use Rattle.wat.specs.Utf8Model.{pick}
use Rattle.lex_classes.specs.Ask as ask

-- the answers to all that is asked of a byte, and that it has a class
pub record Answers : Type 0 where
  pub class : Bool
  pub space : Bool
  pub idchar : Bool
  pub letter : Bool
  pub decimal : Bool
  pub hexadecimal : Bool
  pub control : Bool
  pub raw : Bool
  pub begins : Family

-- the answers of the definitions
abbrev pub defined : ℕ → Answers
defined b =
    record {
      class = true;
      space = chars.space b;
      idchar = chars.idchar b;
      letter = chars.letter b;
      decimal = numbers.digit false b;
      hexadecimal = numbers.digit true b;
      control = chars.control b;
      raw = ask.raw b;
      begins = model.family b;
    }

-- what a byte of class n begins
abbrev pub begins_by : ℕ → Family
begins_by n =
    pick (leb 8 n) family.Run
    (pick (eqb n 1) family.Spaces
    (pick (eqb n 4) family.OpenParen
    (pick (eqb n 5) family.CloseParen
    (pick (eqb n 6) family.Semi
    (pick (eqb n 7) family.Single
    (pick (eqb n 3) family.Run family.Other))))))

-- the answers for a byte b of class n
abbrev pub answered : ℕ → ℕ → Answers
answered n b =
    record {
      class = leb n 13;
      space = eqb n 1;
      idchar = leb 8 n;
      letter = between 11 12 n;
      decimal = eqb n 9;
      hexadecimal = between 9 11 n;
      control = eqb n 0 || (eqb n 1 && not (eqb b 0x20));
      raw = between 4 12 n || eqb b 0x20;
      begins = begins_by n;
    }

-- the table that is lent: at each byte its class answers as the definitions do
pub record Classes (t : List ℕ) : Type 0 where
  pub entry : (b : ℕ) → b < 256 → answered (get_or t b 0) b ≡ defined b
