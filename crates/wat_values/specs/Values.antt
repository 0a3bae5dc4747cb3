-- What each reader leaves of a token's bytes (docs/RULES.md, 11).
use Rattle.std.specs.Prelude.{ℕ, ◌+◌, ◌≡◌, Bool, true, false, ◌||◌, List, [], ◌∷◌, ◌++◌, length, eqb, Ok}
use Rattle.wat.specs.declared.{Sign.Sign, IntegerKind.IntegerKind, FloatKind.FloatKind}
use Rattle.wat.specs.declared.{TokenKind.TokenKind, LexError.LexError}
use Rattle.wat_values.specs.declared.{NameKind.NameKind, FloatPart.FloatPart}
use Rattle.wat_values.specs.declared.NameKind.TheVariants as name_of
use Rattle.wat_values.specs.declared.FloatPart.TheVariants as the
use Rattle.wat.specs.declared.Sign.TheVariants.{Unsigned, Plus, Minus}
use Rattle.wat.specs.declared.FloatKind.TheVariants.{Inf, Nan, NanVal, Normal}
use Rattle.wat.specs.declared.TokenKind.TheVariants as kind
use Rattle.wat.specs.declared.LexError.TheVariants.{InvalidUtf8Id, EmptyId, EmptyAnnotation}
use Rattle.wat.specs.Checked.{Bad}
use Rattle.wat.specs.{Bytes.bytes, Bytes.byte, Bytes.has, Bytes.Each}
use Rattle.wat.specs.{Settings.lenient, Utf8.Says, Chars.idchar, Strings.Str}
use Rattle.wat.specs.Numbers.{prefix, nan_colon, Digits, Signed, Fraction, Exponent}

pub data Reader : Type 0 where
  src string name digits : Reader
  float : FloatPart → Reader

-- the tokens that have a name: their kind, and the byte before the name
pub data Sigil : NameKind → TokenKind → ℕ → Type 0 where
  id : Sigil name_of.Id kind.Id (byte "$")
  annotation : Sigil name_of.Annotation kind.Annotation (byte "@")

-- the error of a name that is empty: 23, 24
abbrev pub empty_name : NameKind → LexError
empty_name name_of.Id = EmptyId
empty_name name_of.Annotation = EmptyAnnotation

-- the kinds that a reader takes; 31 for the others
pub data Takes : Reader → TokenKind → Type 0 where
  any : {k : TokenKind} → Takes src k
  a_string : Takes string kind.String
  a_name : {n : NameKind} {k : TokenKind} {x : ℕ} → Sigil n k x → Takes name k
  an_integer : {i : IntegerKind} → Takes digits (kind.Integer i)
  a_float : {p : FloatPart} {f : FloatKind} → Takes (float p) (kind.Float f)

-- what a reader leaves
pub data Value : Type 0 where
  -- bytes of the token, after so many others
  part : ℕ → List ℕ → Value
  -- bytes that are copied: the Rust's `Cow` is Owned
  copy : List ℕ → Value
  absent : Value
  -- an error, and the bytes that were copied before it was found
  refused : List ℕ → LexError → Value

-- these bytes, copied; or, where they are not, after n others
unfoldable pub copy_or_part : Bool → ℕ → List ℕ → Value
copy_or_part true n v = copy v
copy_or_part false n v = part n v

unfoldable pub copied : Bool → List ℕ → List ℕ
copied true v = v
copied false v = []

-- the bytes without underscores
unfoldable pub bare : List ℕ → List ℕ
bare [] = []
bare (x ∷ t) = elim (eqb x (byte "_")) [ true ↦ bare t | false ↦ x ∷ bare t ]

-- a `+` is dropped, a `-` is kept
abbrev pub dropped : Sign → List ℕ
dropped Unsigned = []
dropped Plus = bytes "+"
dropped Minus = []

abbrev pub kept : Sign → List ℕ
kept Unsigned = []
kept Plus = []
kept Minus = bytes "-"

-- a name after its `$` or `@`: not empty (23, 24), and UTF-8 if quoted (22); copied if it has an escape
pub data Name (whose : NameKind) : List ℕ → Value → Type 0 where
  word : {x : ℕ} {w : List ℕ} → Each idchar true (x ∷ w) → Name whose (x ∷ w) (part 1 (x ∷ w))
  nothing : Name whose [] (refused [] (empty_name whose))
  quoted : {w v : List ℕ} {x : ℕ} → Str lenient w (x ∷ v) → Says (x ∷ v) (Ok tt)
      → Name whose w (copy_or_part (has (byte "\\") w) 2 (x ∷ v))
  quoted_nothing : {w : List ℕ} → Str lenient w [] → Name whose w (refused [] (empty_name whose))
  quoted_wrong : {w v : List ℕ} {n l : ℕ} → Str lenient w v → Says v (Bad n l)
      → Name whose w (refused (copied (has (byte "\\") w) v) (InvalidUtf8Id n l))

-- a number's bytes w in parts: the sign's bytes u, 0x if it is hexadecimal, the digits p before the point, the fraction
-- f with its dot, the exponent e with its mark and sign. `-0x1_0.8p+3` has `-`, `1_0`, `.8` and `p+3`
pub record Split (hex : Bool) (w : List ℕ) (sign : Sign) (u p f e : List ℕ) : Type 0 where
  pub signed : Signed sign u
  pub whole : Digits hex p
  pub after : Fraction hex f
  pub power : Exponent hex e
  pub is : w ≡ u ++ (prefix hex ++ (p ++ (f ++ e)))

-- what the reader leaves of a token's bytes w, by its kind: without `0x` and underscores; absent if the kind lacks it.
-- The parts of a number with underscores are copies; hexadecimal digits before the point are so too
pub data Reads : Reader → TokenKind → List ℕ → Value → Type 0 where
  itself : {k : TokenKind} {w : List ℕ} → Reads src k w (part 0 w)
  a_string : {w v : List ℕ} → Str lenient w v → Reads string kind.String w (copy_or_part (has (byte "\\") w) 1 v)
  a_name : {n : NameKind} {k : TokenKind} {x : ℕ} {w : List ℕ} {v : Value} → Sigil n k x → Name n w v
      → Reads name k (x ∷ w) v
  -- `+10`: `10`, after 1 byte; `-1_0`: a copy, `-10`
  an_integer : {i : IntegerKind} {sign : Sign} {w u p : List ℕ} → Split i.hex w sign u p [] []
      → Reads digits (kind.Integer i) w
      (copy_or_part (i.hex || i.underscores) (length (dropped sign)) (kept sign ++ bare p))
  -- `-10.5e+3`: `-10`, after no byte; `-1_0.5e+3`: a copy, `-10`
  an_integral : {c h : Bool} {sign : Sign} {w u p f e : List ℕ} → Split h w sign u p f e
      → Reads (float the.Integral) (kind.Float (Normal c h)) w
      (copy_or_part (h || c) (length (dropped sign)) (kept sign ++ bare p))
  -- no dot: `10e+3`
  no_fraction : {c h : Bool} {sign : Sign} {w u p e : List ℕ} → Split h w sign u p [] e
      → Reads (float the.Fraction) (kind.Float (Normal c h)) w absent
  -- only a dot: `10.e+3`
  only_dot : {c h : Bool} {sign : Sign} {w u p e : List ℕ} → Split h w sign u p (bytes ".") e
      → Reads (float the.Fraction) (kind.Float (Normal c h)) w absent
  -- `-10.5e+3`: `5`, after 4 bytes; `-1_0.5e+3`: a copy, `5`
  a_fraction : {c h : Bool} {sign : Sign} {w u p s e : List ℕ} → Split h w sign u p (byte "." ∷ s) e → Digits h s
      → Reads (float the.Fraction) (kind.Float (Normal c h)) w
      (copy_or_part c (length (u ++ (prefix h ++ p)) + 1) (bare s))
  -- no mark: `10.5`
  no_exponent : {c h : Bool} {sign : Sign} {w u p f : List ℕ} → Split h w sign u p f []
      → Reads (float the.Exponent) (kind.Float (Normal c h)) w absent
  -- `-10.5e+3`: `3`, after 7 bytes; `-10.5e-3`: `-3`, after 6; `-1_0.5e+3`: a copy, `3`
  an_exponent : {c h : Bool} {sign power : Sign} {m : ℕ} {w u p f v s : List ℕ} → Split h w sign u p f (m ∷ v ++ s)
      → Signed power v → Digits false s → Reads (float the.Exponent) (kind.Float (Normal c h)) w
      (copy_or_part c (length (u ++ (prefix h ++ (p ++ f))) + 1 + length (dropped power)) (kept power ++ bare s))
  -- `-nan:0x10`: `10`, after 7 bytes; `-nan:0x1_0`: a copy, `10`
  a_payload : {n c : Bool} {sign : Sign} {u s w : List ℕ} → Signed sign u → Digits true s → w ≡ u ++ (nan_colon ++ s)
      → Reads (float the.Payload) (kind.Float (NanVal n c)) w (copy_or_part c (length (u ++ nan_colon)) (bare s))
  of_inf : {p : FloatPart} {n : Bool} {w : List ℕ} → Reads (float p) (kind.Float (Inf n)) w absent
  of_nan : {p : FloatPart} {n : Bool} {w : List ℕ} → Reads (float p) (kind.Float (Nan n)) w absent
  of_payload : {p : FloatPart} {n u : Bool} {w : List ℕ} → (p ≡ the.Payload → ⊥)
      → Reads (float p) (kind.Float (NanVal n u)) w absent
  of_normal : {u h : Bool} {w : List ℕ} → Reads (float the.Payload) (kind.Float (Normal u h)) w absent
