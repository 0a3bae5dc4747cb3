-- What a reader leaves of a token: it is refused exactly where the name is, and a part that is not copied stands in the
-- token. Assumes nothing.
use Prim.Native.Nat.{ℕ, ◌+◌}
use mathlib.Core.Path.{◌≡◌, refl, sym, ap, ◌∙◌, subst}
use mathlib.Core.List.{List, [], ◌∷◌, ◌++◌, append-nil, append_assoc}
use mathlib.Core.Bool.{Bool, true, false, ◌||◌}
use native.Mathlib.Omega.{arith}
use lib.Dec.{eqb}
use lib.ListN.{length, length-append}
use Rattle.wat.specs.declared.Sign.{Sign}
use Rattle.wat.specs.declared.TokenKind.{TokenKind}
use Rattle.wat.specs.declared.LexError.{LexError}
use Rattle.wat.specs.declared.LexError.TheVariants.{InvalidUtf8Id}
use Rattle.wat.specs.Checked.{Bad}
use Rattle.wat.specs.Bytes.{has, Each}
use Rattle.wat.specs.Settings.{lenient}
use Rattle.wat.specs.Utf8.{WellFormed, Says}
use Rattle.wat.specs.Chars.{idchar}
use Rattle.wat.specs.Numbers.{prefix, nan_colon, Signed}
use Rattle.wat.specs.Strings.{Elem, Elems, Str}
use Rattle.wat.specs.Tokens.{Tok}
use Rattle.wat_values.specs.declared.NameKind.{NameKind}
use Rattle.wat_values.specs.Values.{Reader, Sigil, empty_name, Value, part, copy, absent, refused, copy_or_part, bare}
use Rattle.wat_values.specs.Values.{dropped, kept, Name, Split, Reads}
use Rattle.wat_values.specs.Names.{Names, Misnamed}
use Rattle.wat.proofs.Numbers.Parts.{has_append}
use Rattle.wat.proofs.Scalars.{ascii}
use Rattle.wat.proofs.Basics.{differ, or_no}
use Rattle.wat.proofs.Runs.{idchar_ascii}
use Rattle.wat_laws.proofs.OneCall.{not_both}
use Rattle.wat_values.proofs.OneValue.{name_one}
use Rattle.wat_values.proofs.SomeValue.{made}

-- what is left where it is, or copied, is neither absent nor refused
abbrev Given : Value → Type 0
Given (part n v) = Unit {0}
Given (copy v) = Unit {0}
Given absent = ⊥
Given (refused v e) = ⊥

pub left_given : (c : Bool) (n : ℕ) (v : List ℕ) {w : Value} → copy_or_part c n v ≡ w → Given w
unfolding copy_or_part
left_given true n v q = subst Given q tt
left_given false n v q = subst Given q tt

-- a name that is refused is empty or not UTF-8
name_wrong : (P : LexError → Type 0) (x : ℕ) {whose : NameKind} {w : List ℕ} {v : Value} (u : List ℕ) (e : LexError)
    → (Names (x ∷ w) [] → P (empty_name whose))
    → ((name : List ℕ) (n l : ℕ) → Names (x ∷ w) name → Says name (Bad n l) → P (InvalidUtf8Id n l)) → Name whose w v
    → v ≡ refused u e → P e
name_wrong P x u e f g (Name.word h) q = differ (cc)
name_wrong P x {whose} u e f g Name.nothing q = let z : empty_name whose ≡ e = cc in subst P z (f (Names.word Each.none))
name_wrong P x u e f g (Name.quoted {w = w} {v = v} {x = y} s h) q = absurd (left_given (has 0x5C w) 2 (y ∷ v) q)
name_wrong P x {whose} u e f g (Name.quoted_nothing s) q = let z : empty_name whose ≡ e = cc in subst P z (f (Names.quoted s))
name_wrong P x u e f g (Name.quoted_wrong {v = v} {n = n} {l = l} s h) q = let z : InvalidUtf8Id n l ≡ e = cc in
    subst P z (g v n l (Names.quoted s) h)

pub refused_misnamed : {r : Reader} {k : TokenKind} {w : List ℕ} {v : Value} (u : List ℕ) (e : LexError) → Reads r k w v
    → v ≡ refused u e → Misnamed r w e
refused_misnamed u e Reads.itself q = differ (cc)
refused_misnamed u e (Reads.a_string {w = w} {v = v} s) q = absurd (left_given (has 0x5C w) 1 v q)
refused_misnamed u e (Reads.a_name {x = x} {w = w} s n) q =
    name_wrong (Misnamed Reader.name (x ∷ w)) x u e (λ m. Misnamed.empty s m) (λ name i l m h. Misnamed.wrong m h) n q
refused_misnamed u e (Reads.an_integer x) q = absurd (left_given _ _ _ q)
refused_misnamed u e (Reads.an_integral x) q = absurd (left_given _ _ _ q)
refused_misnamed u e (Reads.no_fraction x) q = differ (cc)
refused_misnamed u e (Reads.only_dot x) q = differ (cc)
refused_misnamed u e (Reads.a_fraction x d) q = absurd (left_given _ _ _ q)
refused_misnamed u e (Reads.no_exponent x) q = differ (cc)
refused_misnamed u e (Reads.an_exponent x g d) q = absurd (left_given _ _ _ q)
refused_misnamed u e (Reads.a_payload g d i) q = absurd (left_given _ _ _ q)
refused_misnamed u e Reads.of_inf q = differ (cc)
refused_misnamed u e Reads.of_nan q = differ (cc)
refused_misnamed u e (Reads.of_payload n) q = differ (cc)
refused_misnamed u e Reads.of_normal q = differ (cc)

-- a word is UTF-8
word_formed : {w : List ℕ} → Each idchar true w → WellFormed w
word_formed Each.none = WellFormed.empty
word_formed (Each.next {x = x} e r) = WellFormed.more (ascii x (idchar_ascii x e)) (word_formed r)

name_empty : {whose : NameKind} (x : ℕ) (w : List ℕ) → Names (x ∷ w) [] → Name whose w (refused [] (empty_name whose))
name_empty x w (Names.word h) = Name.nothing
name_empty x w (Names.quoted s) = Name.quoted_nothing s

name_bad : {whose : NameKind} {name : List ℕ} {n l : ℕ} (x : ℕ) (w : List ℕ) → Names (x ∷ w) name → Says name (Bad n l)
    → (u : List ℕ) × Name whose w (refused u (InvalidUtf8Id n l))
name_bad x w (Names.word h) b = absurd (not_both b (word_formed h))
name_bad x w (Names.quoted s) b = (_, Name.quoted_wrong s b)

-- the byte before a name tells whose it is
sigil_tells : {n m : NameKind} {k j : TokenKind} {x y : ℕ} → Sigil n k x → Sigil m j y → x ≡ y → n ≡ m
sigil_tells Sigil.id Sigil.id e = refl
sigil_tells Sigil.id Sigil.annotation e = absurd (omega arith)
sigil_tells Sigil.annotation Sigil.id e = absurd (omega arith)
sigil_tells Sigil.annotation Sigil.annotation e = refl

pub misnamed_refused : {r : Reader} {k : TokenKind} {w : List ℕ} {v : Value} {e : LexError} → Reads r k w v → Misnamed r w e
    → (u : List ℕ) × (v ≡ refused u e)
misnamed_refused r d = go d r
  where
    go : {r : Reader} {k : TokenKind} {w : List ℕ} {v : Value} {e : LexError} → Misnamed r w e → Reads r k w v
        → (u : List ℕ) × (v ≡ refused u e)
    go (Misnamed.empty t m) (Reads.a_name {x = x} {w = w} s n) =
        ([], name_one n (name_empty x w m) ∙ ap (λ (o : NameKind). refused [] (empty_name o)) (sigil_tells s t refl))
    go (Misnamed.wrong m b) (Reads.a_name {x = x} {w = w} s n) = let z = name_bad x w m b in (z.0, name_one n z.1)

-- ---- a part that is not copied stands in the token

pub record Inside (w : List ℕ) (n : ℕ) (v : List ℕ) : Type 0 where
  pub before : List ℕ
  pub after : List ℕ
  pub split : w ≡ before ++ (v ++ after)
  pub long : length before ≡ n

abbrev pub Within : List ℕ → Value → Type 0
Within w (part n v) = Inside w n v
Within w (copy v) = Unit {0}
Within w absent = Unit {0}
Within w (refused v e) = Unit {0}

left_within : {w : List ℕ} (c : Bool) (n : ℕ) (v : List ℕ) → (c ≡ false → Inside w n v) → Within w (copy_or_part c n v)
unfolding copy_or_part
left_within true n v f = tt
left_within false n v f = f refl

-- a string with no escape stands for itself

pub has_parts : (c : ℕ) (s t : List ℕ) → has c (s ++ t) ≡ false → (has c s ≡ false) × (has c t ≡ false)
has_parts c s t e = or_no (has c s) (has c t) (sym (has_append c s t) ∙ e)

elem_raw : {s v : List ℕ} → Elem lenient s v → has 0x5C s ≡ false → s ≡ v
unfolding has
elem_raw (Elem.raw ch p q r h) e = refl
elem_raw (Elem.letter m) e = differ (cc)
elem_raw (Elem.pair p q) e = differ (cc)
elem_raw (Elem.unicode r ch) e = differ (cc)

elems_raw : {s v : List ℕ} → Elems lenient s v → has 0x5C s ≡ false → s ≡ v
elems_raw Elems.none e = refl
elems_raw (Elems.next {s = s} {v = v} {t = t} {w = w} p r) e = let z = has_parts 0x5C s t e in cc (elem_raw p z.0, elems_raw r z.1)

str_raw : {w v : List ℕ} → Str lenient w v → has 0x5C w ≡ false → w ≡ 0x22 ∷ (v ++ (0x22 ∷ []))
unfolding has
str_raw (Str.quoted {s = s} {v = v} p) e =
    ap (λ (z : List ℕ). 0x22 ∷ (z ++ (0x22 ∷ []))) (elems_raw p (has_parts 0x5C s (0x22 ∷ []) e).0)

name_within : {whose : NameKind} {w : List ℕ} {v : Value} (x : ℕ) → Name whose w v → Within (x ∷ w) v
name_within x (Name.word {x = y} {w = w} h) =
    record { before = x ∷ []; after = []; split = ap (λ (z : List ℕ). x ∷ z) (sym (append-nil (y ∷ w))); long = refl }
name_within x Name.nothing = tt
name_within x (Name.quoted {w = w} {v = v} {x = y} s h) =
    left_within (has 0x5C w) 2 (y ∷ v)
    (λ e. record {
      before = x ∷ 0x22 ∷ [];
      after = 0x22 ∷ [];
      split = ap (λ (z : List ℕ). x ∷ z) (str_raw s e);
      long =
          refl;
    })
name_within x (Name.quoted_nothing s) = tt
name_within x (Name.quoted_wrong s h) = tt

-- a number's part with no underscore is spelled as it stands

bare_same : (s : List ℕ) → has 0x5F s ≡ false → bare s ≡ s
unfolding bare has
bare_same [] e = refl
bare_same (x ∷ t) e = let z = or_no (eqb x 0x5F) (has 0x5F t) e in rw (z.0, bare) (ap (λ (y : List ℕ). x ∷ y) (bare_same t z.1))

-- a sign is dropped or kept
sign_split : {sign : Sign} {u : List ℕ} (s : List ℕ) → Signed sign u → u ++ s ≡ dropped sign ++ (kept sign ++ s)
sign_split s Signed.unsigned = refl
sign_split s Signed.plus = refl
sign_split s Signed.minus = refl

-- each part of a number, after what stands before it
module _ {hex : Bool} {w : List ℕ} {sign : Sign} {u p f e : List ℕ} (x : Split hex w sign u p f e) (c : Bool)
    (g : c ≡ has 0x5F w) where
  gapless : (a b : List ℕ) → w ≡ a ++ b → c ≡ false → has 0x5F b ≡ false
  gapless a b i q = (has_parts 0x5F a b (ap (has 0x5F) (sym i) ∙ sym g ∙ q)).1

  at_digits : w ≡ (u ++ prefix hex) ++ (p ++ (f ++ e))
  at_digits = x.is ∙ simp append_assoc

  at_fraction : w ≡ (u ++ (prefix hex ++ p)) ++ (f ++ e)
  at_fraction = x.is ∙ simp append_assoc

  at_exponent : w ≡ (u ++ (prefix hex ++ (p ++ f))) ++ e
  at_exponent = x.is ∙ simp append_assoc

  whole_within : Within w (copy_or_part (hex || c) (length (dropped sign)) (kept sign ++ bare p))
  whole_within = left_within (hex || c) (length (dropped sign)) (kept sign ++ bare p) inside
    where
      inside : hex || c ≡ false → Inside w (length (dropped sign)) (kept sign ++ bare p)
      inside q =
          let z = or_no hex c q in
          let i : w ≡ u ++ (p ++ (f ++ e)) = x.is ∙ ap (λ (h : Bool). u ++ (prefix h ++ (p ++ (f ++ e)))) z.0 in
          let b : bare p ≡ p = bare_same p (has_parts 0x5F p (f ++ e) (gapless (u ++ prefix hex) (p ++ (f ++ e)) at_digits z.1)).0 in
          record {
            before = dropped sign;
            after = f ++ e;
            split = rw b (i ∙ sign_split (p ++ (f ++ e)) x.signed ∙ simp append_assoc);
            long = refl;
          }

  fraction_within : (s : List ℕ) → f ≡ 0x2E ∷ s → Within w (copy_or_part c (length (u ++ (prefix hex ++ p)) + 1) (bare s))
  unfolding has
  fraction_within s i =
      let b = u ++ (prefix hex ++ p) in
      let j : w ≡ (b ++ (0x2E ∷ [])) ++ (s ++ e) = at_fraction ∙ ap (λ (z : List ℕ). b ++ (z ++ e)) i ∙ simp append_assoc in
      left_within c (length b + 1) (bare s)
      (λ q. record {
        before = b ++ (0x2E ∷ []);
        after = e;
        split = rw (bare_same s (has_parts 0x5F s e (gapless (b ++ (0x2E ∷ [])) (s ++ e) j q)).0) j;
        long = length-append b (0x2E ∷ []);
      })

  exponent_within : {power : Sign} (m : ℕ) (v s : List ℕ) → Signed power v → e ≡ m ∷ (v ++ s)
      → Within w (copy_or_part c (length (u ++ (prefix hex ++ (p ++ f))) + 1 + length (dropped power)) (kept power ++ bare s))
  exponent_within {power} m v s h i =
      let b = u ++ (prefix hex ++ (p ++ f)) in
      let j : w ≡ (b ++ (m ∷ v)) ++ s = at_exponent ∙ ap (λ (z : List ℕ). b ++ z) i ∙ sym (append_assoc b (m ∷ v) s) in
      let k : w ≡ (b ++ (m ∷ dropped power)) ++ (kept power ++ s) = at_exponent
      ∙ ap (λ (z : List ℕ). b ++ z) i ∙ ap (λ (z : List ℕ). b ++ (m ∷ z)) (sign_split s h)
      ∙ sym (append_assoc b (m ∷ dropped power) (kept power ++ s)) in
      left_within c (length b + 1 + length (dropped power)) (kept power ++ bare s)
      (λ q. record {
        before = b ++ (m ∷ dropped power);
        after = [];
        split = rw (bare_same s (gapless (b ++ (m ∷ v)) s j q), append-nil) k;
        long = omega (arith, length-append b (m ∷ dropped power));
      })

payload_within : {w : List ℕ} (c : Bool) (u s : List ℕ) → w ≡ u ++ (nan_colon ++ s) → c ≡ has 0x5F w
    → Within w (copy_or_part c (length (u ++ nan_colon)) (bare s))
payload_within {w} c u s e g =
    left_within c (length (u ++ nan_colon)) (bare s)
    (λ q. let a : has 0x5F (u ++ (nan_colon ++ s)) ≡ false = ap (has 0x5F) (sym e) ∙ sym g ∙ q in
    let b = (has_parts 0x5F nan_colon s (has_parts 0x5F u (nan_colon ++ s) a).1).1 in
    record { before = u ++ nan_colon; after = []; split = rw (bare_same s b, append-nil, append_assoc) e; long = refl })

pub within : {r : Reader} {k : TokenKind} {w : List ℕ} {v : Value} → Tok k w → Reads r k w v → Within w v
within {w = w} t Reads.itself = record { before = []; after = []; split = sym (append-nil w); long = refl }
within t (Reads.a_string {w = w} {v = v} q) =
    left_within (has 0x5C w) 1 v (λ e. record { before = 0x22 ∷ []; after = 0x22 ∷ []; split = str_raw q e; long = refl })
within t (Reads.a_name {x = x} s n) = name_within x n
within t (Reads.an_integer {i = i} x) = whole_within x i.underscores (made t).1
within t (Reads.an_integral {c = c} x) = whole_within x c (made t).1
within t (Reads.no_fraction x) = tt
within t (Reads.only_dot x) = tt
within t (Reads.a_fraction {c = c} {s = s} x d) = fraction_within x c (made t).1 s refl
within t (Reads.no_exponent x) = tt
within t (Reads.an_exponent {c = c} {m = m} {v = v} {s = s} x g d) = exponent_within x c (made t).1 m v s g refl
within t (Reads.a_payload {c = c} {u = u} {s = s} g d e) = payload_within c u s e (made t).1
within t Reads.of_inf = tt
within t Reads.of_nan = tt
within t (Reads.of_payload n) = tt
within t Reads.of_normal = tt
