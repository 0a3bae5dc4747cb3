-- Each token has a value for each reader that takes its kind. Assumes nothing.
use Prim.Native.Nat.{ℕ}
use mathlib.Core.Path.{◌≡◌, refl, sym, subst, ◌∙◌}
use mathlib.Core.Logic.{◌⊎◌, inl, inr}
use mathlib.Core.List.{List, [], ◌∷◌, ◌++◌, append-nil}
use mathlib.Core.Bool.{Bool, true}
use Rattle.wat.specs.declared.Sign.{Sign}
use Rattle.wat.specs.declared.IntegerKind.{IntegerKind}
use Rattle.wat.specs.declared.FloatKind.{FloatKind}
use Rattle.wat.specs.declared.FloatKind.TheVariants as float_kind
use Rattle.wat.specs.declared.TokenKind.{TokenKind}
use Rattle.wat.specs.declared.TokenKind.TheVariants as kind
use Rattle.wat.specs.declared.Number.{Number}
use Rattle.std.specs.Prelude.{Ok, Err}
use Rattle.wat.specs.Checked.{Checked}
use Rattle.wat.specs.Bytes.{byte, has, Each}
use Rattle.wat.specs.Settings.{lenient}
use Rattle.wat.specs.Utf8.{Says}
use Rattle.wat.specs.Utf8Model.{checked}
use Rattle.wat.specs.Numbers.{prefix, inf, nan, nan_colon, negative, Digits, Signed, Fraction, Exponent, IsInteger, IsFloat, Literal}
use Rattle.wat.specs.Chars.{idchar}
use Rattle.wat.specs.Strings.{Str}
use Rattle.wat.specs.Tokens.{Proper, Tok, number_kind}
use Rattle.wat_values.specs.declared.{NameKind.NameKind, FloatPart.FloatPart}
use Rattle.wat_values.specs.declared.FloatPart.TheVariants as the
use Rattle.wat_values.specs.Values.{Reader, Sigil, Takes, Value, Name, Split, Reads}
use Rattle.wat.proofs.Utf8Laws.{checked_says}
use Rattle.wat.proofs.Basics.{differ}

-- what a token of a kind is made of, as far as readers look
abbrev pub Quoted : List ℕ → Type 0
Quoted w = (v : List ℕ) × Str lenient w v

abbrev Named : ℕ → List ℕ → Type 0
Named x w = (t : List ℕ) × (w ≡ x ∷ t) × (Each idchar true t ⊎ Quoted t)

-- a sign, which is a minus or not as n says, and a word
pub record SignedWord (n : Bool) (word w : List ℕ) : Type 0 where
  pub sign : Sign
  pub u : List ℕ
  pub signed : Signed sign u
  pub minus : n ≡ negative sign
  pub is : w ≡ u ++ word

abbrev pub MadeFloat : FloatKind → List ℕ → Type 0
MadeFloat (float_kind.Inf n) w = SignedWord n inf w
MadeFloat (float_kind.Nan n) w = SignedWord n nan w
MadeFloat (float_kind.NanVal n u) w =
    ((s : List ℕ) × Digits true s × SignedWord n (nan_colon ++ s) w) × (u ≡ has (byte "_") w)
MadeFloat (float_kind.Normal u h) w = IsFloat h w × (u ≡ has (byte "_") w)

abbrev pub Made : TokenKind → List ℕ → Type 0
Made kind.LineComment w = Unit {0}
Made kind.BlockComment w = Unit {0}
Made kind.Whitespace w = Unit {0}
Made kind.LParen w = Unit {0}
Made kind.RParen w = Unit {0}
Made kind.String w = Quoted w
Made kind.Id w = Named (byte "$") w
Made kind.Keyword w = Unit {0}
Made kind.Annotation w = Named (byte "@") w
Made kind.Reserved w = Unit {0}
Made (kind.Integer i) w = IsInteger i.sign i.hex w × (i.underscores ≡ has (byte "_") w)
Made (kind.Float f) w = MadeFloat f w

payload_gaps : {sign : Sign} {u : List ℕ} (s : List ℕ) → Signed sign u → has (byte "_") s ≡ has (byte "_") (u ++ (nan_colon ++ s))
unfolding has
payload_gaps s Signed.unsigned = refl
payload_gaps s Signed.plus = refl
payload_gaps s Signed.minus = refl

number_made : {w : List ℕ} {m : Number} → Literal w m → Made (number_kind m) w
number_made (Literal.an_integer x) = (x, refl)
number_made (Literal.a_float x n) = (x, refl)
number_made (Literal.an_inf g) = record { sign = _; u = _; signed = g; minus = refl; is = refl }
number_made (Literal.a_nan g) = record { sign = _; u = _; signed = g; minus = refl; is = refl }
number_made (Literal.a_payload {s = s} g d) =
    ((s, d, record { sign = _; u = _; signed = g; minus = refl; is = refl }), payload_gaps s g)

pub made : {k : TokenKind} {w : List ℕ} → Tok k w → Made k w
made (Tok.proper (Proper.line_comment l)) = tt
made (Tok.proper (Proper.block_comment l)) = tt
made (Tok.proper (Proper.whitespace l)) = tt
made (Tok.proper Proper.lparen) = tt
made (Tok.proper Proper.rparen) = tt
made (Tok.proper (Proper.string q)) = (_, q)
made (Tok.proper (Proper.number l)) = number_made l
made (Tok.proper (Proper.id e)) = (_, refl, inl e)
made (Tok.proper (Proper.quoted_id q)) = (_, refl, inr (_, q))
made (Tok.proper (Proper.annotation e)) = (_, refl, inl e)
made (Tok.proper (Proper.quoted_annotation q)) = (_, refl, inr (_, q))
made (Tok.proper (Proper.keyword l e n)) = tt
made (Tok.reserved r n) = tt
made (Tok.single p) = tt

-- a token that has a name is the sigil and a word or a string
named : {n : NameKind} {k : TokenKind} {x : ℕ} {w : List ℕ} → Sigil n k x → Tok k w → Named x w
named Sigil.id t = made t
named Sigil.annotation t = made t

-- no kind is an integer's and a float's
pub kinds_apart : {k : TokenKind} {i : IntegerKind} {f : FloatKind} → k ≡ kind.Integer i → k ≡ kind.Float f → ⊥
kinds_apart {i = i} {f = f} e q = let z : kind.Integer i ≡ kind.Float f = sym e ∙ q in differ (cc)

-- an integer is a float too by the standard
pub integer_float : {sign : Sign} {hex : Bool} {w : List ℕ} → IsInteger sign hex w → IsFloat hex w
integer_float {hex = hex} (IsInteger.integer {u = u} {s = s} g d) =
    let x : IsFloat hex (u ++ (prefix hex ++ (s ++ []))) = IsFloat.float g d Fraction.none Exponent.none in rw append-nil at x

-- a float is split in some way, an integer into its sign and its digits
pub float_split : {hex : Bool} {w : List ℕ} → IsFloat hex w → (sign : Sign) × (u p f e : List ℕ) × Split hex w sign u p f e
float_split (IsFloat.float g d x y) = (_, _, _, _, _, record { signed = g; whole = d; after = x; power = y; is = refl })

pub integer_split : {sign : Sign} {hex : Bool} {w : List ℕ} → IsInteger sign hex w → (u p : List ℕ) × Split hex w sign u p [] []
integer_split (IsInteger.integer g d) =
    (_, _, record { signed = g; whole = d; after = Fraction.none; power = Exponent.none; is = rw append-nil refl })

name_of : (n : NameKind) (w : List ℕ) → Each idchar true w ⊎ Quoted w → (v : Value) × Name n w v
name_of n [] (inl h) = (_, Name.nothing)
name_of n (x ∷ w) (inl h) = (_, Name.word h)
name_of n w (inr q) = go q.0 q.1 (checked q.0) (checked_says q.0)
  where
    go : (v : List ℕ) → Str lenient w v → (c : Checked) → Says v c → (r : Value) × Name n w r
    go [] s c h = (_, Name.quoted_nothing s)
    go (x ∷ v) s (Ok _) h = (_, Name.quoted s h)
    go (x ∷ v) s (Err e) h = (_, Name.quoted_wrong s h)

fraction_value : {c h : Bool} {sign : Sign} {w u p f e : List ℕ} → Fraction h f → Split h w sign u p f e
    → (v : Value) × Reads (Reader.float the.Fraction) (kind.Float (float_kind.Normal c h)) w v
fraction_value Fraction.none x = (_, Reads.no_fraction x)
fraction_value Fraction.dot x = (_, Reads.only_dot x)
fraction_value (Fraction.dot_digits d) x = (_, Reads.a_fraction x d)

exponent_value : {c h : Bool} {sign : Sign} {w u p f e : List ℕ} → Exponent h e → Split h w sign u p f e
    → (v : Value) × Reads (Reader.float the.Exponent) (kind.Float (float_kind.Normal c h)) w v
exponent_value Exponent.none x = (_, Reads.no_exponent x)
exponent_value (Exponent.power m g d) x = (_, Reads.an_exponent x g d)

float_value : (p : FloatPart) (f : FloatKind) (w : List ℕ) → MadeFloat f w → (v : Value) × Reads (Reader.float p) (kind.Float f) w v
float_value p (float_kind.Inf n) w m = (_, Reads.of_inf)
float_value p (float_kind.Nan n) w m = (_, Reads.of_nan)
float_value the.Integral (float_kind.NanVal n u) w m = (_, Reads.of_payload (λ (q : the.Integral ≡ the.Payload). differ (cc)))
float_value the.Fraction (float_kind.NanVal n u) w m = (_, Reads.of_payload (λ (q : the.Fraction ≡ the.Payload). differ (cc)))
float_value the.Exponent (float_kind.NanVal n u) w m = (_, Reads.of_payload (λ (q : the.Exponent ≡ the.Payload). differ (cc)))
float_value the.Payload (float_kind.NanVal n u) w m = let x = m.0.2 in (_, Reads.a_payload x.signed m.0.1 x.is)
float_value the.Integral (float_kind.Normal c h) w m = (_, Reads.an_integral (float_split m.0).5)
float_value the.Fraction (float_kind.Normal c h) w m = let x = (float_split m.0).5 in fraction_value x.after x
float_value the.Exponent (float_kind.Normal c h) w m = let x = (float_split m.0).5 in exponent_value x.power x
float_value the.Payload (float_kind.Normal c h) w m = (_, Reads.of_normal)

-- each token has a value for each reader that takes its kind
pub reads : {r : Reader} {k : TokenKind} {w : List ℕ} → Tok k w → Takes r k → (v : Value) × Reads r k w v
reads t Takes.any = (_, Reads.itself)
reads t Takes.a_string = let m = made t in (_, Reads.a_string m.1)
reads t (Takes.a_name {n = n} {k = k} s) =
    let m = named s t in
    let v = name_of n m.0 m.2 in
    (v.0, subst (λ (z : List ℕ). Reads Reader.name k z v.0) (sym m.1) (Reads.a_name s v.1))
reads t Takes.an_integer = (_, Reads.an_integer (integer_split (made t).0).2)
reads {w = w} t (Takes.a_float {p = p} {f = f}) = float_value p f w (made t)
