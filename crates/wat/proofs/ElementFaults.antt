-- The model reads each error in a string as `Bad` says. Assumes nothing.
use Prim.Native.Nat.{ℕ, suc, ◌+◌, ◌*◌, ◌≤◌, ◌<◌}
use mathlib.Core.Path.{◌≡◌, refl, sym, ap, ◌∙◌}
use mathlib.Core.Logic.{⊎_elim}
use mathlib.Core.List.{List, [], ◌∷◌, ◌++◌, append-nil, append_assoc}
use mathlib.Core.Option.{none}
use mathlib.Core.Bool.{Bool, true, false, ◌||◌}
use native.Mathlib.Omega.{arith}
use lib.Dec.{eqb}
use lib.ListN.{length, replicate, length-append, length-replicate}
use borrow.Author.Tests.{le-ltb, ne_eqb, eqb-true, eq-eqb, not-false}
use Rattle.wat.specs.Faults.{fault}
use Rattle.wat.specs.declared.LexError.{LexError}
use Rattle.wat.specs.declared.LexError.TheVariants.{InvalidStringElement, InvalidStringEscape, InvalidHexDigit, Expected}
use Rattle.wat.specs.declared.LexError.TheVariants.{UnexpectedEof, NumberTooBig, LoneUnderscore}
use Rattle.wat.specs.declared.LexError.TheVariants.{ConfusingUnicode, DoubleUnderscore}
use Rattle.wat.specs.declared.Settings.{Settings}
use Rattle.wat.specs.Utf8.{Char, scalar}
use Rattle.wat.specs.Chars.{control, confusing, is_scalar}
use Rattle.wat.specs.Strings.{Hex, Gap, HexNum, escapes}
use Rattle.wat.specs.Numbers.{digit}
use Rattle.wat.specs.StringFaults.{listed, escaping, going_on, NumberEnds, Fits32, Awaits, Bad}
use Rattle.wat.specs.StringModel.{hex_of, letter_of, refused, close_by, number_by}
use Rattle.wat.specs.StringModel.{first_by, brace_by, second_by, escape_by, read}
use Rattle.wat.proofs.Scalars.{ascii, alone_at, peek_char, peek_nothing}
use Rattle.wat.proofs.Utf8Rows.{char_full}
use Rattle.wat.proofs.Utf8Laws.{chars_meet}
use Rattle.wat.proofs.HexDigits.{hex_ascii, no_hex, no_digit, goes_split, GoesOn}
use Rattle.wat.proofs.HexDigits.{not_digit, digit_not, digit_yes, tested_digit, ends_not, not_ends}
use Rattle.wat.proofs.Hexnums.{on_big, on_stop}
use Rattle.wat.proofs.Hexnums.{any, gap_any, under, under_twice, unders}
use Rattle.wat.proofs.Basics.{fault_same, never, or_no, or_split}
use Rattle.wat.proofs.Basics.{has_every, fault_same}
use Rattle.wat.proofs.ElementReads.{hidden_is, read_char, read_slash, read_end, read_u, read_brace, unlisted, not_listed}
use Rattle.wat.proofs.ElementReads.{read_pair, read_digits, read_whole, scalar_fits}

pub confusing_high : (x : ℕ) → confusing x ≡ true → 0x80 ≤ x
unfolding confusing
confusing_high x e = has_every (λ y. 0x80 ≤ y) _ x (omega arith) e

pub high_raw : (x : ℕ) → 0x80 ≤ x → control x ≡ false
unfolding control
high_raw x h = rw (le-ltb x 0x20 (omega arith), ne_eqb x 0x7F (omega arith))

no_control : (x y : ℕ) → control x ≡ true → control y ≡ false → eqb x y ≡ false
no_control x y p q =
    ne_eqb x y (λ e. let z : true ≡ false = sym p ∙ ap control e ∙ q in let y : ◌≡◌ {A = ℕ} 0 1 = cc in omega arith)

-- a number that goes on at a character does so by its scalar value
goes_scalar : (c u : List ℕ) → Char c → GoesOn (c ++ u) → going_on (scalar c) ≡ true
unfolding going_on scalar
goes_scalar [] u ch g = absurd (char_full ch)
goes_scalar (b ∷ c) u ch g =
    goes_split b (c ++ u) g (λ d. at (hex_ascii d.1) (rw (digit_yes b d)))
    (λ e. at (omega arith) (rw (eq-eqb b 0x5F e) (or_true (digit true b))))
  where
    at : b < 0x80 → going_on b ≡ true → going_on (scalar (b ∷ c)) ≡ true
    at h y =
        let alone : b ∷ c ≡ b ∷ [] = (chars_meet (b ∷ c) (b ∷ []) [] c ch (ascii b h) (append-nil (b ∷ c))).0 in
        ap (λ (l : List ℕ). going_on (scalar l)) alone ∙ y

    or_true : (x : Bool) → x || true ≡ true
    or_true true = refl
    or_true false = refl

-- a character with which a number goes on is ASCII
goes_ascii : (x : ℕ) → going_on x ≡ true → x < 0x80
unfolding going_on
goes_ascii x e =
    ⊎_elim (λ d. hex_ascii (tested_digit x d).1) (λ q. let z = eqb-true x 0x5F q in omega arith)
    (or_split (digit true x) (eqb x 0x5F) e)

pub no_escape : (x : ℕ) → eqb x 0x75 ≡ false → letter_of escapes x ≡ none → hex_of x ≡ none → escaping x ≡ false
unfolding escaping
no_escape x e f g = rw (e, not_listed escapes x f) (digit_not x (no_digit x g))

-- where the number ends before a character, it does not go on with it
pub ends_scalar : (c u : List ℕ) → Char c → NumberEnds (c ++ u) → going_on (scalar c) ≡ false
ends_scalar [] u ch g = absurd (char_full ch)
ends_scalar (b ∷ c) u ch (NumberEnds.other e) = go (going_on (scalar (b ∷ c))) refl
  where
    go : (x : Bool) → going_on (scalar (b ∷ c)) ≡ x → going_on (scalar (b ∷ c)) ≡ false
    go true q = absurd (going_on_lem (scalar (b ∷ c)) q)
      where
        first : (x : ℕ) → x ≡ scalar (b ∷ c) → x < 0x80 → going_on x ≡ true → ⊥
        first x z h y = let d : b ∷ c ≡ x ∷ [] = alone_at (b ∷ c) x ch (sym z) h in let w : b ≡ x = cc in
            never (ap going_on w ∙ y) e

        going_on_lem : (x : ℕ) → going_on x ≡ true → ⊥
        going_on_lem x y = first (scalar (b ∷ c)) refl (goes_ascii (scalar (b ∷ c)) q) q
    go false q = q

ends_char : (c u : List ℕ) → Char c → going_on (scalar c) ≡ false → NumberEnds (c ++ u)
ends_char c u ch e = not_ends (c ++ u) (λ g. never (goes_scalar c u ch g) e)

refused_same : (e : LexError) {a b c d : ℕ} → a ≡ c → b ≡ d → refused (fault e a b) ≡ refused (fault e c d)
refused_same e p q = ap refused (fault_same e p q)

module _ (σ : Settings) where
  bad_element : (c u : List ℕ) → Char c → control (scalar c) ≡ true
      → read σ (c ++ u) ≡ refused (fault (InvalidStringElement (scalar c)) 0 (length c))
  unfolding control
  bad_element c u ch e = read_char σ c u ch (no_control (scalar c) 0x22 e refl) (no_control (scalar c) 0x5C e refl) e refl

  bad_hidden : (c u : List ℕ) → Char c → confusing (scalar c) ≡ true → σ.allow_confusing ≡ false
      → read σ (c ++ u) ≡ refused (fault (ConfusingUnicode (scalar c)) 0 (length c))
  bad_hidden c u ch e f =
      let h = confusing_high (scalar c) e in
      read_char σ c u ch (ne_eqb (scalar c) 0x22 (omega arith)) (ne_eqb (scalar c) 0x5C (omega arith)) (high_raw (scalar c) h)
      (hidden_is σ (scalar c) f e)

  bad_escape : (c u : List ℕ) → Char c → escaping (scalar c) ≡ false
      → read σ (0x5C ∷ (c ++ u)) ≡ refused (fault (InvalidStringEscape (scalar c)) 1 (1 + length c))
  unfolding escape_by escaping
  bad_escape c u ch f =
      let h = or_no (eqb (scalar c) 0x75) (listed (scalar c) escapes || digit true (scalar c)) f in
      let k = or_no (listed (scalar c) escapes) (digit true (scalar c)) h.1 in
      read_slash σ (c ++ u)
      ∙ rw (peek_char c u ch, h.0, unlisted escapes (scalar c) k.0, no_hex (scalar c) (not_digit (scalar c) k.1), escape_by)

  bad_second : {h n : ℕ} (c u : List ℕ) → Hex h n → Char c → digit true (scalar c) ≡ false
      → read σ (0x5C ∷ h ∷ (c ++ u)) ≡ refused (fault (InvalidHexDigit (scalar c)) 2 (2 + length c))
  unfolding second_by
  bad_second c u h ch f = read_pair σ (c ++ u) h ∙ rw (peek_char c u ch, no_hex (scalar c) (not_digit (scalar c) f), second_by)

  bad_brace : (c u : List ℕ) → Char c → eqb (scalar c) 0x7B ≡ false
      → read σ (0x5C ∷ 0x75 ∷ (c ++ u)) ≡ refused (fault (Expected 0x7B (scalar c)) 2 (2 + length c))
  unfolding brace_by
  bad_brace c u ch f = read_u σ (c ++ u) ∙ rw (peek_char c u ch, f, brace_by)

  bad_first : (c u : List ℕ) → Char c → digit true (scalar c) ≡ false
      → read σ (0x5C ∷ 0x75 ∷ 0x7B ∷ (c ++ u)) ≡ refused (fault (InvalidHexDigit (scalar c)) 3 (3 + length c))
  unfolding first_by
  bad_first c u ch f = read_brace σ (c ++ u) ∙ rw (peek_char c u ch, no_hex (scalar c) (not_digit (scalar c) f), first_by)

  bad_big : {ds : List ℕ} {n d m : ℕ} (k : ℕ) (u : List ℕ) → Gap σ k → HexNum σ ds n → Fits32 n → Hex d m
      → (Fits32 (n * 16 + m) → ⊥)
      → read σ (0x5C ∷ 0x75 ∷ 0x7B ∷ ((ds ++ replicate k 0x5F) ++ (d ∷ u)))
      ≡ refused (fault NumberTooBig (3 + (length ds + k)) (4 + (length ds + k)))
  unfolding number_by
  bad_big {ds} {n} {d} k u p r f h g =
      ap (λ (l : List ℕ). read σ (0x5C ∷ 0x75 ∷ 0x7B ∷ l)) (append_assoc ds (replicate k 0x5F) (d ∷ u))
      ∙ read_digits σ (replicate k 0x5F ++ (d ∷ u)) r f
      ∙ rw (unders σ k n (length ds) (d ∷ u) p, on_big σ (any k) n (length ds + k) u h g)

  bad_lone : {ds : List ℕ} {n : ℕ} (k : ℕ) (u : List ℕ) → Gap σ (k + 1) → HexNum σ ds n → Fits32 n → NumberEnds u
      → read σ (0x5C ∷ 0x75 ∷ 0x7B ∷ ((ds ++ replicate k 0x5F) ++ (0x5F ∷ u)))
      ≡ refused (fault LoneUnderscore (3 + (length ds + k)) (3 + suc (length ds + k)))
  unfolding number_by
  bad_lone {ds} {n} k u p r f g =
      ap (λ (l : List ℕ). read σ (0x5C ∷ 0x75 ∷ 0x7B ∷ l)) (append_assoc ds (replicate k 0x5F) (0x5F ∷ u))
      ∙ read_digits σ (replicate k 0x5F ++ (0x5F ∷ u)) r f
      ∙ rw (
        unders σ k n (length ds) (0x5F ∷ u) (λ s. omega (arith, p s)),
        under σ (any k) n (length ds + k) u (gap_any σ k p),
        on_stop σ true n (suc (length ds + k)) u (ends_not g),
      )

  bad_double : {ds : List ℕ} {n : ℕ} (u : List ℕ) → σ.strict_digits ≡ true → HexNum σ ds n → Fits32 n
      → read σ (0x5C ∷ 0x75 ∷ 0x7B ∷ ((ds ++ (0x5F ∷ [])) ++ (0x5F ∷ u)))
      ≡ refused (fault DoubleUnderscore (3 + suc (length ds)) (4 + suc (length ds)))
  unfolding number_by
  bad_double {ds} {n} u e r f =
      ap (λ (l : List ℕ). read σ (0x5C ∷ 0x75 ∷ 0x7B ∷ l)) (append_assoc ds (0x5F ∷ []) (0x5F ∷ u))
      ∙ read_digits σ (0x5F ∷ 0x5F ∷ u) r f
      ∙ rw (under σ false n (length ds) (0x5F ∷ u) refl, under_twice σ true n (suc (length ds)) u e)

  bad_close : {ds : List ℕ} {n : ℕ} (c u : List ℕ) → HexNum σ ds n → is_scalar n ≡ true → Char c
      → going_on (scalar c) || eqb (scalar c) 0x7D ≡ false
      → read σ (0x5C ∷ 0x75 ∷ 0x7B ∷ (ds ++ (c ++ u)))
      ≡ refused (fault (Expected 0x7D (scalar c)) (3 + length ds) (3 + (length ds + length c)))
  unfolding close_by
  bad_close {ds} {n} c u r e ch f =
      let h = or_no (going_on (scalar c)) (eqb (scalar c) 0x7D) f in
      read_whole σ (c ++ u) r (scalar_fits n e) (ends_char c u ch h.0) e ∙ rw (peek_char c u ch, h.1, close_by)

  end_read : {p : List ℕ} {test : ℕ → Bool} {error : ℕ → LexError} → Awaits σ p test error
      → read σ (p ++ []) ≡ refused (fault UnexpectedEof (length p) (length p + 0))
  unfolding escape_by second_by brace_by first_by close_by
  end_read Awaits.element = read_end σ
  end_read Awaits.escape = read_slash σ [] ∙ rw peek_nothing
  end_read (Awaits.second h) = read_pair σ [] h ∙ rw peek_nothing
  end_read Awaits.brace = read_u σ [] ∙ rw peek_nothing
  end_read Awaits.first = read_brace σ [] ∙ rw peek_nothing
  end_read (Awaits.close {ds = ds} {n = n} r e) =
      read_whole σ [] r (scalar_fits n e) NumberEnds.text e ∙ rw peek_nothing (refused_same UnexpectedEof (omega arith) (omega arith))

  other_read : {p : List ℕ} {test : ℕ → Bool} {error : ℕ → LexError} (c u : List ℕ) → Awaits σ p test error → Char c
      → test (scalar c) ≡ false
      → read σ (p ++ (c ++ u)) ≡ refused (fault (error (scalar c)) (length p) (length p + length c))
  other_read c u Awaits.element ch f = bad_element c u ch (not-false _ f) ∙ refused_same _ refl (omega arith)
  other_read c u Awaits.escape ch f = bad_escape c u ch f
  other_read c u (Awaits.second h) ch f = bad_second c u h ch f
  other_read c u Awaits.brace ch f = bad_brace c u ch f
  other_read c u Awaits.first ch f = bad_first c u ch f
  other_read c u (Awaits.close r e) ch f = bad_close c u r e ch f ∙ refused_same _ (omega arith) (omega arith)

  pub bad_read : {p c u : List ℕ} {e : LexError} → Bad σ p c u e
      → read σ (p ++ (c ++ u)) ≡ refused (fault e (length p) (length p + length c))
  bad_read (Bad.other {at = c} {rest = u} a ch f) = other_read c u a ch f
  bad_read (Bad.end a) = end_read a
  bad_read (Bad.hidden {at = c} {rest = u} ch e f) = bad_hidden c u ch e f ∙ refused_same _ refl (omega arith)
  bad_read (Bad.big {ds = ds} {rest = u} k p r f h g) =
      let l = length-append ds (replicate k 0x5F) in let m = length-replicate {A = ℕ} k 0x5F in
      bad_big k u p r f h g ∙ refused_same _ (omega arith) (omega arith)
  bad_read (Bad.lone {ds = ds} {rest = u} k p r f g) =
      let l = length-append ds (replicate k 0x5F) in let m = length-replicate {A = ℕ} k 0x5F in
      bad_lone k u p r f g ∙ refused_same _ (omega arith) (omega arith)
  bad_read (Bad.double {ds = ds} {rest = u} e r f) =
      let l = length-append ds (0x5F ∷ []) in bad_double u e r f ∙ refused_same _ (omega arith) (omega arith)
  bad_read (Bad.value {ds = ds} {rest = u} {d = d} {n = n} r f e g) =
      let l = length-append ds (d ∷ []) in
      ap (λ (l : List ℕ). read σ (0x5C ∷ 0x75 ∷ 0x7B ∷ l)) (sym (append_assoc ds (d ∷ []) u))
      ∙ read_whole σ u r f g e ∙ refused_same _ (omega arith) (omega arith)
