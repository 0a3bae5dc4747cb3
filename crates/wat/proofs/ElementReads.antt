-- The model reads each element of a string as `Elem` says. Assumes nothing.
use Prim.Native.Nat.{ℕ, pred, ◌+◌, ◌*◌}
use mathlib.Core.Path.{◌≡◌, refl, sym, ap, ◌∙◌}
use mathlib.Core.Logic.{⊎_elim}
use mathlib.Core.List.{List, [], ◌∷◌, ◌++◌, Memᴰ, append_assoc}
use mathlib.Core.Option.{none, some}
use mathlib.Core.Bool.{Bool, true, false, ◌||◌}
use native.Mathlib.Omega.{arith}
use lib.Dec.{ltb, eqb}
use lib.ListN.{length, replicate, length-append}
use lib.Seq.{drop-append_seam}
use borrow.Author.Tests.{ltb-true, ne_eqb, eqb-true}
use Rattle.wat.specs.Faults.{fault}
use Rattle.wat.specs.declared.LexError.TheVariants.{InvalidStringElement}
use Rattle.wat.specs.declared.LexError.TheVariants.{UnexpectedEof, InvalidUnicodeValue}
use Rattle.wat.specs.declared.LexError.TheVariants.{ConfusingUnicode}
use Rattle.wat.specs.declared.Settings.{Settings}
use Rattle.wat.specs.Utf8.{Char, scalar}
use Rattle.wat.specs.Utf8Model.{pick}
use Rattle.wat.specs.Bytes.{between}
use Rattle.wat.specs.Chars.{control, confusing, is_scalar}
use Rattle.wat.specs.Strings.{Hex, HexNum, escapes, Elem}
use Rattle.wat.specs.Numbers.{digit}
use Rattle.wat.specs.StringFaults.{listed, going_on, NumberEnds, Fits32}
use Rattle.wat.specs.declared.Num.TheVariants.{Is as num}
use Rattle.wat.specs.StringModel.{char, peek, digits, encode, letter_of, element, quote, refused, close_by, number_by}
use Rattle.wat.specs.StringModel.{first_by, brace_by, second_by, escape_by, hides, read_by, read}
use Rattle.wat.proofs.ScalarValues.{char_right}
use Rattle.wat.proofs.Scalars.{scalar_split, peek_char, peek_nothing, peek_ascii}
use Rattle.wat.proofs.HexDigits.{hex_of_lem, hex_ascii, NotHex, hex_not}
use Rattle.wat.proofs.HexDigits.{ends_not}
use Rattle.wat.proofs.Hexnums.{on_stop}
use Rattle.wat.proofs.Hexnums.{numbered, number_run}
use Rattle.wat.proofs.Basics.{differ, or_no}
use Rattle.wat.proofs.Basics.{AllPairs, pairs_listed}

hidden_not : (σ : Settings) (c : ℕ) → (σ.allow_confusing ≡ false → confusing c ≡ false) → hides σ c ≡ false
unfolding hides
hidden_not σ c h = go σ.allow_confusing refl
  where
    go : (b : Bool) → σ.allow_confusing ≡ b → hides σ c ≡ false
    go true e = rw (e, hides)
    go false e = rw (e, hides) (h e)

pub hidden_is : (σ : Settings) (c : ℕ) → σ.allow_confusing ≡ false → confusing c ≡ true → hides σ c ≡ true
unfolding hides
hidden_is σ c e h = rw (e, hides) h

pub hidden_split : (σ : Settings) (c : ℕ) (b : Bool) → hides σ c ≡ b
    → (b ≡ true → (σ.allow_confusing ≡ false) × (confusing c ≡ true))
    × (b ≡ false → σ.allow_confusing ≡ false → confusing c ≡ false)
unfolding hides
hidden_split σ c b e = go σ.allow_confusing refl
  where
    go : (y : Bool) → σ.allow_confusing ≡ y
        → (b ≡ true → (σ.allow_confusing ≡ false) × (confusing c ≡ true))
        × (b ≡ false → σ.allow_confusing ≡ false → confusing c ≡ false)
    go true q = let z : false ≡ b = rw (q, hides) at e in (λ h. differ (cc), λ h i. differ (cc))
    go false q = let z : confusing c ≡ b = rw (q, hides) at e in (λ h. (q, cc), λ h i. cc)

module _ (σ : Settings) where
  pub read_char : (c x : List ℕ) → Char c → (eqb (scalar c) 0x22 ≡ false) → (eqb (scalar c) 0x5C ≡ false)
      → {a b : Bool} → control (scalar c) ≡ a → hides σ (scalar c) ≡ b
      → read σ (c ++ x) ≡ pick a (refused (fault (InvalidStringElement (scalar c)) 0 (length c)))
      (pick b (refused (fault (ConfusingUnicode (scalar c)) 0 (length c))) (element (length c) c))
  unfolding read read_by
  read_char c x ch p q {a} {b} e f = rw (peek_char c x ch, p, q, read_by) (go a b e f)
    where
      go : (a b : Bool) → control (scalar c) ≡ a → hides σ (scalar c) ≡ b
          → elim (control (scalar c)) [
            | true ↦ refused (fault (InvalidStringElement (scalar c)) 0 (length c))
            | false ↦ elim (hides σ (scalar c))
                [ true ↦ refused (fault (ConfusingUnicode (scalar c)) 0 (length c)) | false ↦ element (length c) c ]
          ]
          ≡ pick a (refused (fault (InvalidStringElement (scalar c)) 0 (length c)))
          (pick b (refused (fault (ConfusingUnicode (scalar c)) 0 (length c))) (element (length c) c))
      go true b e f = rw e
      go false true e f = rw (e, f)
      go false false e f = rw (e, f)

  pub read_slash : (x : List ℕ) → read σ (0x5C ∷ x) ≡ escape_by σ (peek x)
  unfolding read read_by scalar
  read_slash x = rw (peek_ascii 0x5C x (omega arith))

  pub read_quote : (x : List ℕ) → read σ (0x22 ∷ x) ≡ quote
  unfolding read read_by scalar
  read_quote x = rw (peek_ascii 0x22 x (omega arith))

  pub read_end : read σ [] ≡ refused (fault UnexpectedEof 0 0)
  unfolding read read_by
  read_end = rw peek_nothing

  pub read_u : (x : List ℕ) → read σ (0x5C ∷ 0x75 ∷ x) ≡ brace_by σ (peek x)
  unfolding escape_by scalar
  read_u x = read_slash (0x75 ∷ x) ∙ rw (peek_ascii 0x75 x (omega arith))

  pub read_brace : (x : List ℕ) → read σ (0x5C ∷ 0x75 ∷ 0x7B ∷ x) ≡ first_by σ (peek x)
  unfolding brace_by scalar
  read_brace x = read_u (0x7B ∷ x) ∙ rw (peek_ascii 0x7B x (omega arith))

abbrev pub Letter : ℕ → ℕ → Type 0
Letter e v = (eqb e 0x75 ≡ false) × (letter_of escapes e ≡ some v) × (ltb e 0x80 ≡ true)

pub letters : AllPairs Letter escapes
unfolding escapes
letters =
    ((refl, refl, refl), ((refl, refl, refl), ((refl, refl, refl), ((refl, refl, refl), ((refl, refl, refl), ((refl, refl, refl), tt))))))

abbrev AllNotHex : List (ℕ × ℕ) → Type 0
AllNotHex [] = Unit {0}
AllNotHex (p ∷ t) = NotHex p.0 × AllNotHex t

hex_no_letter : {d n : ℕ} (t : List (ℕ × ℕ)) → AllNotHex t → Hex d n → letter_of t d ≡ none
hex_no_letter [] a h = refl
hex_no_letter (p ∷ t) a h = rw (hex_not p.0 a.0 h) (hex_no_letter t a.1 h)

escapes_apart : AllNotHex escapes
unfolding escapes
escapes_apart = omega arith

pub pair_listed : (t : List (ℕ × ℕ)) (b v : ℕ) → letter_of t b ≡ some v → Memᴰ (b, v) t
pair_listed [] b v e = differ (cc)
pair_listed (p ∷ t) b v e = go (eqb b p.0) refl e (pair_listed t b v)
  where
    go : (x : Bool) → eqb b p.0 ≡ x → pick x (some p.1) (letter_of t b) ≡ some v
        → (letter_of t b ≡ some v → Memᴰ (b, v) t) → Memᴰ (b, v) (p ∷ t)
    go true a e ih =
        let q : b ≡ p.0 = eqb-true b p.0 a in
        let r : p.1 ≡ v = cc in
        Memᴰ.head (λ i. (q i, sym r i))
    go false a e ih = Memᴰ.tail (ih e)

-- a letter that the table has not
pub unlisted : (t : List (ℕ × ℕ)) (b : ℕ) → listed b t ≡ false → letter_of t b ≡ none
unfolding listed
unlisted [] b e = refl
unlisted (p ∷ t) b e = let h = or_no (eqb b p.0) (listed b t) e in rw h.0 (unlisted t b h.1)

pub not_listed : (t : List (ℕ × ℕ)) (b : ℕ) → letter_of t b ≡ none → listed b t ≡ false
unfolding listed
not_listed [] b e = refl
not_listed (p ∷ t) b e = go (eqb b p.0) refl (not_listed t b)
  where
    go : (x : Bool) → eqb b p.0 ≡ x → (letter_of t b ≡ none → listed b t ≡ false) → eqb b p.0 || listed b t ≡ false
    go true q ih = let z : some p.1 ≡ none = rw q at e in differ (cc)
    go false q ih = rw q (ih (rw q at e))

module _ (σ : Settings) where
  -- after `\` and a digit
  pub read_pair : {h n : ℕ} (x : List ℕ) → Hex h n → read σ (0x5C ∷ h ∷ x) ≡ second_by n (peek x)
  unfolding escape_by scalar
  read_pair {h} x p =
      read_slash σ (h ∷ x) ∙ rw (
        peek_ascii h x (hex_ascii p),
        hex_not 0x75 (omega arith) p,
        hex_no_letter escapes escapes_apart p,
        hex_of_lem p,
        escape_by,
      )

  read_number : {ds : List ℕ} {n : ℕ} (x : List ℕ) → HexNum σ ds n
      → first_by σ (peek (ds ++ x)) ≡ number_by (ds ++ x) (numbered σ (ds ++ x))
  unfolding first_by scalar
  read_number x (HexNum.one {d = b} h) = rw (peek_ascii b x (hex_ascii h), hex_of_lem h, first_by, numbered)
  read_number x (HexNum.more {ds = ds} {d = d} k g r h) =
      let e : (ds ++ (replicate k 0x5F ++ (d ∷ []))) ++ x ≡ ds ++ ((replicate k 0x5F ++ (d ∷ [])) ++ x) =
      append_assoc ds (replicate k 0x5F ++ (d ∷ [])) x in
      ap (λ (l : List ℕ). first_by σ (peek l)) e ∙ read_number ((replicate k 0x5F ++ (d ∷ [])) ++ x) r
      ∙ ap (λ (l : List ℕ). number_by l (numbered σ l)) (sym e)

  -- `\u{`, a number and what follows it
  pub read_digits : {ds : List ℕ} {n : ℕ} (x : List ℕ) → HexNum σ ds n → Fits32 n
      → read σ (0x5C ∷ 0x75 ∷ 0x7B ∷ (ds ++ x)) ≡ number_by (ds ++ x) (digits σ false n (length ds) x)
  read_digits {ds} x r f = read_brace σ (ds ++ x) ∙ read_number x r ∙ ap (number_by (ds ++ x)) (number_run x r f)

  pub read_whole : {ds : List ℕ} {n : ℕ} (x : List ℕ) → HexNum σ ds n → Fits32 n → NumberEnds x → {b : Bool}
      → is_scalar n ≡ b
      → read σ (0x5C ∷ 0x75 ∷ 0x7B ∷ (ds ++ x)) ≡ pick b (close_by n (length ds) (peek x))
      (refused (fault (InvalidUnicodeValue n) (3 + pred (length ds)) (3 + length ds)))
  unfolding number_by
  read_whole {ds} {n} x r f g {b} e = read_digits x r f ∙ rw (on_stop σ false n (length ds) x (ends_not g)) (go b e)
    where
      go : (b : Bool) → is_scalar n ≡ b
          → number_by (ds ++ x) (num n (length ds)) ≡ pick b (close_by n (length ds) (peek x))
          (refused (fault (InvalidUnicodeValue n) (3 + pred (length ds)) (3 + length ds)))
      go true e = rw (e, number_by, drop-append_seam ds x)
      go false e = rw (e, number_by)

pub scalar_fits : (n : ℕ) → is_scalar n ≡ true → Fits32 n
scalar_fits n e = ⊎_elim (λ h. omega arith) (λ h. omega arith) (scalar_split n e)

no_brace : (x : List ℕ) → NumberEnds (0x7D ∷ x)
unfolding going_on digit between
no_brace x = NumberEnds.other refl

elem_letter : (σ : Settings) (e v : ℕ) (x : List ℕ) → Memᴰ (e, v) escapes
    → read σ (0x5C ∷ e ∷ x) ≡ element 2 (v ∷ [])
unfolding escape_by scalar
elem_letter σ e v x m =
    let l = pairs_listed Letter escapes letters m in
    read_slash σ (e ∷ x) ∙ rw (peek_ascii e x (ltb-true e 0x80 l.2), l.0, l.1, escape_by)

elem_pair : (σ : Settings) {h l n m : ℕ} (x : List ℕ) → Hex h n → Hex l m
    → read σ (0x5C ∷ h ∷ l ∷ x) ≡ element 3 ((n * 16 + m) ∷ [])
unfolding second_by scalar
elem_pair σ {l = l} x p q = read_pair σ (l ∷ x) p ∙ rw (peek_ascii l x (hex_ascii q), hex_of_lem q, second_by)

elem_unicode : (σ : Settings) {ds c : List ℕ} (x : List ℕ) → HexNum σ ds (scalar c) → Char c
    → read σ (0x5C ∷ 0x75 ∷ 0x7B ∷ (ds ++ (0x7D ∷ x))) ≡ element (4 + length ds) c
unfolding close_by scalar
elem_unicode σ {ds} {c} x r ch =
    let w = char_right c ch in
    read_whole σ (0x7D ∷ x) r (scalar_fits (scalar c) w.1) (no_brace x) w.1
    ∙ rw (peek_ascii 0x7D x (omega arith)) (at_brace ∙ rw w.0)
  where
    at_brace : close_by (scalar c) (length ds) (char (0x7D ∷ []) x) ≡ element (4 + length ds) (encode (scalar c))
    at_brace = refl

pub elem_read : {σ : Settings} {s v : List ℕ} (x : List ℕ) → Elem σ s v → read σ (s ++ x) ≡ element (length s) v
elem_read {σ} x (Elem.raw {c = c} ch p q r h) =
    read_char σ c x ch (ne_eqb (scalar c) 0x22 q) (ne_eqb (scalar c) 0x5C r) p (hidden_not σ (scalar c) h)
elem_read {σ} x (Elem.letter {e = e} {v = v} m) = elem_letter σ e v x m
elem_read {σ} x (Elem.pair p q) = elem_pair σ x p q
elem_read {σ} x (Elem.unicode {ds = ds} {c = c} r ch) =
    ap (λ (l : List ℕ). read σ (0x5C ∷ 0x75 ∷ 0x7B ∷ l)) (append_assoc ds (0x7D ∷ []) x)
    ∙ elem_unicode σ x r ch ∙ ap (λ (k : ℕ). element k c) (omega (arith, length-append ds (0x7D ∷ [])))
