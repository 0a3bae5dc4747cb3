-- Each reader leaves one value of a token's bytes. Assumes nothing.
use Prim.Native.Nat.{ℕ}
use mathlib.Core.Path.{◌≡◌, refl, sym, ap, ◌∙◌, subst}
use mathlib.Core.List.{List, [], ◌∷◌, ◌++◌, append-nil}
use mathlib.Core.Bool.{Bool, true, false}
use native.Mathlib.Omega.{arith}
use lib.ListN.{length, take, length-append}
use lib.Seq.{take-append_seam}
use Rattle.wat.specs.declared.Sign.{Sign}
use Rattle.wat.specs.declared.TokenKind.{TokenKind}
use Rattle.std.specs.Prelude.{Ok}
use Rattle.wat.specs.Checked.{Bad}
use Rattle.wat.specs.Bytes.{has, Each}
use Rattle.wat.specs.Settings.{lenient}
use Rattle.wat.specs.Utf8.{WellFormed}
use Rattle.wat.specs.Numbers.{prefix, nan_colon, Digits, Signed}
use Rattle.wat.specs.NumberModel.{past, run, sign_of, after_sign, fraction}
use Rattle.wat.specs.Chars.{idchar}
use Rattle.wat.specs.Strings.{Str}
use Rattle.wat_values.specs.declared.NameKind.{NameKind}
use Rattle.wat_values.specs.Values.{Reader, Sigil, Value, copy_or_part, bare, Name, Split, Reads}
use Rattle.wat.proofs.Numbers.Digits.{passes}
use Rattle.wat.proofs.Numbers.Parts.{Plain, plain, sign_passed, after_passed, digits_plain, fraction_stops, fraction_passed}
use Rattle.wat.proofs.Numbers.Decides.{body_plain}
use Rattle.wat.proofs.Utf8Laws.{says_one}
use Rattle.wat_laws.proofs.OneCall.{bad_one}
use Rattle.wat.proofs.Basics.{never, differ, cut_off}
use Rattle.wat.proofs.StringRests.{str_one}
use Rattle.wat.proofs.Runs.{quote_no_idchar}

value_of : {w w' v v' : List ℕ} → Str lenient w v → Str lenient w' v' → w ≡ w' → v ≡ v'
value_of {w} {w'} p q e = (str_one [] [] p q (ap (λ (z : List ℕ). z ++ []) e)).1

no_word : {x : ℕ} {w s v : List ℕ} → Each idchar true (x ∷ w) → Str lenient s v → s ≡ x ∷ w → ⊥
no_word (Each.next {x = x} e r) (Str.quoted p) q = let z : x ≡ 0x22 = cc in never (rw z at e) quote_no_idchar

no_empty : {s v : List ℕ} → Str lenient s v → s ≡ [] → ⊥
no_empty (Str.quoted p) q = let y : ◌≡◌ {A = ℕ} 0 1 = cc in omega arith

names_one : {n : NameKind} {w w' : List ℕ} {r r' : Value} → Name n w r → Name n w' r' → w ≡ w' → r ≡ r'
names_one (Name.word a) (Name.word b) q = cc
names_one (Name.word a) Name.nothing q = differ (cc)
names_one (Name.word a) (Name.quoted p s) q = absurd (no_word a p (sym q))
names_one (Name.word a) (Name.quoted_nothing p) q = absurd (no_word a p (sym q))
names_one (Name.word a) (Name.quoted_wrong p s) q = absurd (no_word a p (sym q))
names_one Name.nothing (Name.word b) q = differ (cc)
names_one Name.nothing Name.nothing q = refl
names_one Name.nothing (Name.quoted p s) q = absurd (no_empty p (sym q))
names_one Name.nothing (Name.quoted_nothing p) q = absurd (no_empty p (sym q))
names_one Name.nothing (Name.quoted_wrong p s) q = absurd (no_empty p (sym q))
names_one (Name.quoted p s) (Name.word b) q = absurd (no_word b p q)
names_one (Name.quoted p s) Name.nothing q = absurd (no_empty p q)
names_one (Name.quoted p s) (Name.quoted p' s') q = let e = value_of p p' q in cc
names_one (Name.quoted p s) (Name.quoted_nothing p') q = let e = value_of p p' q in differ (cc)
names_one (Name.quoted {v = v} {x = x} p s) (Name.quoted_wrong {n = n} {l = l} p' s') q =
    let e = value_of p p' q in let z = says_one (x ∷ v) (Ok tt) (Bad n l) s (rw (sym e) at s') in differ (cc)
names_one (Name.quoted_nothing p) (Name.word b) q = absurd (no_word b p q)
names_one (Name.quoted_nothing p) Name.nothing q = absurd (no_empty p q)
names_one (Name.quoted_nothing p) (Name.quoted p' s') q = let e = value_of p p' q in differ (cc)
names_one (Name.quoted_nothing p) (Name.quoted_nothing p') q = refl
names_one (Name.quoted_nothing p) (Name.quoted_wrong {n = n} {l = l} p' s') q =
    let e = value_of p p' q in let z = says_one [] (Ok tt) (Bad n l) WellFormed.empty (rw (sym e) at s') in differ (cc)
names_one (Name.quoted_wrong p s) (Name.word b) q = absurd (no_word b p q)
names_one (Name.quoted_wrong p s) Name.nothing q = absurd (no_empty p q)
names_one (Name.quoted_wrong {n = n} {l = l} p s) (Name.quoted {v = v} {x = x} p' s') q =
    let e = value_of p p' q in let z = says_one (x ∷ v) (Ok tt) (Bad n l) s' (rw e at s) in differ (cc)
names_one (Name.quoted_wrong {n = n} {l = l} p s) (Name.quoted_nothing p') q =
    let e = value_of p p' q in let z = says_one [] (Ok tt) (Bad n l) WellFormed.empty (rw e at s) in differ (cc)
names_one (Name.quoted_wrong {v = v} {n = n} {l = l} p s) (Name.quoted_wrong {n = n'} {l = l'} p' s') q =
    let e = value_of p p' q in let z = bad_one s (rw (sym e) at s') in cc

pub name_one : {n : NameKind} {w : List ℕ} {r r' : Value} → Name n w r → Name n w r' → r ≡ r'
name_one a b = names_one a b refl

-- a kind of token has one sigil
pub sigil_one : {n m : NameKind} {k : TokenKind} {x y : ℕ} → Sigil n k x → Sigil m k y → (n ≡ m) × (x ≡ y)
sigil_one Sigil.id Sigil.id = (refl, refl)
sigil_one Sigil.annotation Sigil.annotation = (refl, refl)

-- ---- numbers

-- a sign and what follows it
pub signed_one : {sign sign' : Sign} {u u' s s' : List ℕ} → Signed sign u → Signed sign' u' → Plain s → Plain s'
    → u ++ s ≡ u' ++ s' → (sign ≡ sign') × (s ≡ s')
signed_one a b p q e =
    (sym (sign_passed a p) ∙ ap sign_of e ∙ sign_passed b q, sym (after_passed a p) ∙ ap after_sign e ∙ after_passed b q)

-- two ways to split a list with the same end
front_one : (p p' v v' : List ℕ) → p ++ v ≡ p' ++ v' → v ≡ v' → p ≡ p'
front_one p p' v v' e q =
    let n : length p ≡ length p' = omega (arith, ap length e, ap length q, length-append p v, length-append p' v') in
    cc (take-append_seam p v, take-append_seam p' v', ap (take (length p)) e)

digits_some : {hex : Bool} {s : List ℕ} → Digits hex s → s ≡ [] → ⊥
digits_some (Digits.last p) e = let y : ◌≡◌ {A = ℕ} 0 1 = cc in omega arith
digits_some (Digits.next p r) e = let y : ◌≡◌ {A = ℕ} 0 1 = cc in omega arith
digits_some (Digits.gap p r) e = let y : ◌≡◌ {A = ℕ} 0 1 = cc in omega arith

signed_bytes : {sign : Sign} {u u' : List ℕ} → Signed sign u → Signed sign u' → u ≡ u'
signed_bytes Signed.unsigned Signed.unsigned = refl
signed_bytes Signed.plus Signed.plus = refl
signed_bytes Signed.minus Signed.minus = refl

-- a number is split in one way
pub split_one : {hex : Bool} {w : List ℕ} {sign sign' : Sign} {u u' p p' f f' e e' : List ℕ} → Split hex w sign u p f e
    → Split hex w sign' u' p' f' e'
    → (sign ≡ sign') × (u ≡ u') × (p ≡ p') × (f ≡ f') × (e ≡ e')
split_one {hex} {w} {sign} {sign'} {u} {u'} {p} {p'} {f} {f'} {e} {e'} x y =
    let z = signed_one x.signed y.signed (body_plain hex (f ++ e) x.whole) (body_plain hex (f' ++ e') y.whole)
    (sym x.is ∙ y.is) in
    let t : p ++ (f ++ e) ≡ p' ++ (f' ++ e') = cut_off (prefix hex) z.1 in
    let i : past (has 0x5F p) (f ++ e) ≡ past (has 0x5F p') (f' ++ e') =
    sym (passes (f ++ e) x.whole (fraction_stops x.after x.power)) ∙ ap (run hex true) t
    ∙ passes (f' ++ e') y.whole (fraction_stops y.after y.power) in
    let j : f ++ e ≡ f' ++ e' = cc in
    let l : past (has 0x5F f) e ≡ past (has 0x5F f') e' = sym (fraction_passed x.after x.power) ∙ ap (fraction hex) j
    ∙ fraction_passed y.after y.power in
    let m : e ≡ e' = cc in (
      z.0,
      signed_bytes x.signed (subst (λ (s : Sign). Signed s u') (sym z.0) y.signed),
      front_one p p' (f ++ e) (f' ++ e') t j,
      front_one f f' e e' j m,
      m,
    )

-- a sign and digits
number_one : {sign sign' : Sign} {u u' s s' : List ℕ} → Signed sign u → Signed sign' u' → Digits false s
    → Digits false s'
    → u ++ s ≡ u' ++ s' → (sign ≡ sign') × (s ≡ s')
number_one g g' d d' q = signed_one g g' (rw append-nil at (digits_plain [] d)) (rw append-nil at (digits_plain [] d')) q

payload_same : {sign sign' : Sign} {u u' w : List ℕ} (s s' : List ℕ) (c : Bool) → Signed sign u → Signed sign' u'
    → w ≡ u ++ (nan_colon ++ s) → w ≡ u' ++ (nan_colon ++ s')
    → copy_or_part c (length (u ++ nan_colon)) (bare s) ≡ copy_or_part c (length (u' ++ nan_colon)) (bare s')
payload_same {sign} {sign'} {u} {u'} s s' c g g' e e' =
    let z = signed_one g g' (plain refl refl) (plain refl refl) (sym e ∙ e') in
    let i : u ≡ u' = signed_bytes g (subst (λ (x : Sign). Signed x u') (sym z.0) g') in
    let j : s ≡ s' = cut_off nan_colon z.1 in
    cc

-- ---- each reader

-- a reader leaves one value of a token's bytes
pub reads_one : {r : Reader} {k : TokenKind} {w : List ℕ} {v v' : Value} → Reads r k w v → Reads r k w v' → v ≡ v'
reads_one Reads.itself Reads.itself = refl
reads_one {w = w} (Reads.a_string p) (Reads.a_string q) = let e = value_of p q refl in cc
reads_one (Reads.a_name {w = w} {v = v} s a) (Reads.a_name t b) =
    name_one (subst (λ (n : NameKind). Name n w v) (sigil_one s t).0 a) b
reads_one (Reads.an_integer x) (Reads.an_integer y) = let z = split_one x y in cc (z.0, z.2)
reads_one (Reads.an_integral x) (Reads.an_integral y) = let z = split_one x y in cc (z.0, z.2)
reads_one (Reads.no_fraction x) (Reads.no_fraction y) = refl
reads_one (Reads.no_fraction x) (Reads.only_dot y) = refl
reads_one (Reads.no_fraction x) (Reads.a_fraction y d) = let q = (split_one x y).3 in differ (cc)
reads_one (Reads.only_dot x) (Reads.no_fraction y) = refl
reads_one (Reads.only_dot x) (Reads.only_dot y) = refl
reads_one (Reads.only_dot x) (Reads.a_fraction y d) = let q = (split_one x y).3 in absurd (digits_some d (cc))
reads_one (Reads.a_fraction x d) (Reads.no_fraction y) = let q = (split_one x y).3 in differ (cc)
reads_one (Reads.a_fraction x d) (Reads.only_dot y) = let q = (split_one x y).3 in absurd (digits_some d (cc))
reads_one (Reads.a_fraction {s = s} x d) (Reads.a_fraction {s = s'} y d') =
    let z = split_one x y in
    let q = z.3 in
    let t : s ≡ s' = cc in
    cc (z.1, z.2, t)
reads_one (Reads.no_exponent x) (Reads.no_exponent y) = refl
reads_one (Reads.no_exponent x) (Reads.an_exponent y g d) = let q = (split_one x y).4 in differ (cc)
reads_one (Reads.an_exponent x g d) (Reads.no_exponent y) = let q = (split_one x y).4 in differ (cc)
reads_one (Reads.an_exponent {v = v} {s = s} x g d) (Reads.an_exponent {v = v'} {s = s'} y g' d') =
    let z = split_one x y in
    let q = z.4 in
    let t : v ++ s ≡ v' ++ s' = cc in
    let n = number_one g g' d d' t in
    cc (z.1, z.2, z.3, n.0, n.1)
reads_one (Reads.a_payload {c = c} {s = s} g d e) (Reads.a_payload {s = s'} g' d' e') = payload_same s s' c g g' e e'
reads_one (Reads.a_payload g d e) (Reads.of_payload n) = absurd (n refl)
reads_one Reads.of_inf Reads.of_inf = refl
reads_one Reads.of_nan Reads.of_nan = refl
reads_one (Reads.of_payload n) (Reads.a_payload g d e) = absurd (n refl)
reads_one (Reads.of_payload n) (Reads.of_payload m) = refl
reads_one Reads.of_normal Reads.of_normal = refl
