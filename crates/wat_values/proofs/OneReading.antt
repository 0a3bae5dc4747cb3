-- The readers' calls have one answer each, and one buffer afterwards, for every text, token and buffer. Assumes nothing.
use Prim.Native.Nat.{ℕ}
use mathlib.Core.Path.{◌≡◌, refl, ap}
use mathlib.Core.List.{List, ◌++◌}
use native.Mathlib.Omega.{arith}
use lib.ListN.{length, drop}
use Rattle.wat.specs.declared.{TokenKind.TokenKind, Token.Token, Refusal.Refusal}
use Rattle.wat_values.specs.{IntegerSign.IntegerSign, FloatSign.FloatSign}
use Rattle.wat_values.specs.{Answered.Reading, Named.NameReading}
use Rattle.wat_values.specs.Values.{Reader, Takes, Value, Reads}
use Rattle.wat_values.specs.Reading.{There, Missing, needs, found, Handed, Read, ReadsName, Second, ReadsSign, negative_of}
use Rattle.wat_values.specs.Reading.{ReadsNegative}
use Rattle.wat.proofs.Basics.{differ}
use Rattle.wat_laws.proofs.OneCall.{rejected_one, stands_or_rejected}
use Rattle.wat_values.proofs.OneValue.{sigil_one, reads_one}

pub missing_one : {text : List ℕ} {token : Token} {r r' : Refusal} {p p' : ℕ} → Missing text token r p
    → Missing text token r' p'
    → (r ≡ r') × (p ≡ p')
missing_one (Missing.rejected t) (Missing.rejected t') = rejected_one t t'
missing_one (Missing.rejected t) (Missing.not_there s n) = absurd (stands_or_rejected s t)
missing_one (Missing.not_there s n) (Missing.rejected t) = absurd (stands_or_rejected s t)
missing_one (Missing.not_there s n) (Missing.not_there s' n') = (refl, refl)

pub there_or_missing : {text : List ℕ} {token : Token} {r : Refusal} {p : ℕ} → There text token → Missing text token r p → ⊥
there_or_missing t (Missing.rejected b) = stands_or_rejected t.stands b
there_or_missing t (Missing.not_there s n) = n t

-- a reader that leaves a value takes the kind
pub reads_takes : {r : Reader} {k : TokenKind} {w : List ℕ} {v : Value} → Reads r k w v → Takes r k
reads_takes Reads.itself = Takes.any
reads_takes (Reads.a_string q) = Takes.a_string
reads_takes (Reads.a_name s n) = Takes.a_name s
reads_takes (Reads.an_integer x) = Takes.an_integer
reads_takes (Reads.an_integral x) = Takes.a_float
reads_takes (Reads.no_fraction x) = Takes.a_float
reads_takes (Reads.only_dot x) = Takes.a_float
reads_takes (Reads.a_fraction x d) = Takes.a_float
reads_takes (Reads.no_exponent x) = Takes.a_float
reads_takes (Reads.an_exponent x g d) = Takes.a_float
reads_takes (Reads.a_payload g d e) = Takes.a_float
reads_takes Reads.of_inf = Takes.a_float
reads_takes Reads.of_nan = Takes.a_float
reads_takes (Reads.of_payload n) = Takes.a_float
reads_takes Reads.of_normal = Takes.a_float

-- a value is handed over in one way
pub handed_one : {offset : ℕ} {v v' : Value} {buffer b b' : List ℕ} {a a' : Reading} → Handed offset v buffer a b
    → Handed offset v' buffer a' b' → v ≡ v' → (a ≡ a') × (b ≡ b')
handed_one (Handed.too_short h) (Handed.too_short h') z = (refl, refl)
handed_one (Handed.too_short h) (Handed.fits h') z = absurd (omega (arith, ap (λ (v : Value). length (needs v)) z))
handed_one (Handed.fits h) (Handed.too_short h') z = absurd (omega (arith, ap (λ (v : Value). length (needs v)) z))
handed_one {offset = offset} {buffer = buffer} (Handed.fits h) (Handed.fits h') z =
    (ap (found offset) z, ap (λ (v : Value). needs v ++ drop (length (needs v)) buffer) z)

pub read_one : {reader : Reader} {text buffer b b' : List ℕ} {token : Token} {a a' : Reading}
    → Read reader text token buffer a b → Read reader text token buffer a' b' → (a ≡ a') × (b ≡ b')
read_one (Read.missing x) (Read.missing y) = let z = missing_one x y in (cc (z.0, z.1), refl)
read_one (Read.missing x) (Read.other_kind t n) = absurd (there_or_missing t x)
read_one (Read.missing x) (Read.reads t r h) = absurd (there_or_missing t x)
read_one (Read.other_kind t n) (Read.missing x) = absurd (there_or_missing t x)
read_one (Read.other_kind t n) (Read.other_kind t' n') = (refl, refl)
read_one (Read.other_kind t n) (Read.reads t' r h) = absurd (n (reads_takes r))
read_one (Read.reads t r h) (Read.missing x) = absurd (there_or_missing t x)
read_one (Read.reads t r h) (Read.other_kind t' n) = absurd (n (reads_takes r))
read_one (Read.reads t r h) (Read.reads t' r' h') = handed_one h h' (reads_one r r')

pub reads_name_one : {text buffer b b' : List ℕ} {token : Token} {a a' : NameReading} → ReadsName text token buffer a b
    → ReadsName text token buffer a' b' → (a ≡ a') × (b ≡ b')
reads_name_one (ReadsName.no_name x) (ReadsName.no_name y) = let z = read_one x y in (cc z.0, z.1)
reads_name_one (ReadsName.no_name x) (ReadsName.in_text t y) = let z = read_one x y in let q = z.0 in differ (cc)
reads_name_one (ReadsName.no_name x) (ReadsName.in_buffer t y) = let z = read_one x y in let q = z.0 in differ (cc)
reads_name_one (ReadsName.in_text s x) (ReadsName.no_name y) = let z = read_one x y in let q = z.0 in differ (cc)
reads_name_one (ReadsName.in_text s x) (ReadsName.in_text t y) = let z = read_one x y in (cc (z.0, (sigil_one s t).0), z.1)
reads_name_one (ReadsName.in_text s x) (ReadsName.in_buffer t y) = let z = read_one x y in let q = z.0 in differ (cc)
reads_name_one (ReadsName.in_buffer s x) (ReadsName.no_name y) = let z = read_one x y in let q = z.0 in differ (cc)
reads_name_one (ReadsName.in_buffer s x) (ReadsName.in_text t y) = let z = read_one x y in let q = z.0 in differ (cc)
reads_name_one (ReadsName.in_buffer s x) (ReadsName.in_buffer t y) = let z = read_one x y in (cc (z.0, (sigil_one s t).0), z.1)

-- the second call takes one part
pub second_one : {text buffer v w : List ℕ} {a : Reading} → Second text buffer a v → Second text buffer a w → v ≡ w
second_one (Second.in_text h) (Second.in_text k) = refl
second_one (Second.in_text h) (Second.none t b) = absurd (omega (arith, t _ _ refl))
second_one (Second.in_buffer h) (Second.in_buffer k) = refl
second_one (Second.in_buffer h) (Second.none t b) = absurd (omega (arith, b _ _ refl))
second_one (Second.none t b) (Second.in_text h) = absurd (omega (arith, t _ _ refl))
second_one (Second.none t b) (Second.in_buffer h) = absurd (omega (arith, b _ _ refl))
second_one (Second.none t b) (Second.none u c) = refl

pub reads_sign_one : {text : List ℕ} {token : Token} {a b : IntegerSign} → ReadsSign text token a → ReadsSign text token b → a ≡ b
reads_sign_one (ReadsSign.missing x) (ReadsSign.missing y) = let z = missing_one x y in cc (z.0, z.1)
reads_sign_one (ReadsSign.missing x) (ReadsSign.other_kind t n) = absurd (there_or_missing t x)
reads_sign_one (ReadsSign.missing x) (ReadsSign.sign t e) = absurd (there_or_missing t x)
reads_sign_one (ReadsSign.other_kind t n) (ReadsSign.missing x) = absurd (there_or_missing t x)
reads_sign_one (ReadsSign.other_kind t n) (ReadsSign.other_kind t' n') = refl
reads_sign_one (ReadsSign.other_kind t n) (ReadsSign.sign {i = i} t' e) = absurd (n i e)
reads_sign_one (ReadsSign.sign t e) (ReadsSign.missing x) = absurd (there_or_missing t x)
reads_sign_one (ReadsSign.sign {i = i} t e) (ReadsSign.other_kind t' n) = absurd (n i e)
reads_sign_one (ReadsSign.sign {i = i} t e) (ReadsSign.sign {i = j} t' e') = let z : i ≡ j = cc in cc

pub reads_negative_one : {text : List ℕ} {token : Token} {a b : FloatSign} → ReadsNegative text token a
    → ReadsNegative text token b → a ≡ b
reads_negative_one (ReadsNegative.missing x) (ReadsNegative.missing y) = let z = missing_one x y in cc (z.0, z.1)
reads_negative_one (ReadsNegative.missing x) (ReadsNegative.other_kind t n) = absurd (there_or_missing t x)
reads_negative_one (ReadsNegative.missing x) (ReadsNegative.sign t e) = absurd (there_or_missing t x)
reads_negative_one (ReadsNegative.other_kind t n) (ReadsNegative.missing x) = absurd (there_or_missing t x)
reads_negative_one (ReadsNegative.other_kind t n) (ReadsNegative.other_kind t' n') = refl
reads_negative_one (ReadsNegative.other_kind t n) (ReadsNegative.sign {f = f} t' e) = absurd (n f e)
reads_negative_one (ReadsNegative.sign t e) (ReadsNegative.missing x) = absurd (there_or_missing t x)
reads_negative_one (ReadsNegative.sign {f = f} t e) (ReadsNegative.other_kind t' n) = absurd (n f e)
reads_negative_one (ReadsNegative.sign {f = f} t e) (ReadsNegative.sign {f = g} t' e') = let z : f ≡ g = cc in ap negative_of z
