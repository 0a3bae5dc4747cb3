-- What the model reads at a character, in the terms of the code: a law for each way to return. Assumes nothing.
use Prim.Native.Nat.{ℕ, ◌+◌, ◌-◌, ◌*◌, ◌≤◌, ◌<◌}
use mathlib.Core.Path.{◌≡◌, refl, sym, ap, ◌∙◌}
use mathlib.Core.List.{List, [], ◌∷◌, ◌++◌}
use mathlib.Core.Option.{none, some}
use mathlib.Core.Bool.{Bool, true, false}
use native.Mathlib.Omega.{arith}
use lib.Dec.{eqb}
use lib.ListN.{length, get_or, take, drop, length-drop, take-append-drop}
use lib.Seq.{drop-drop}
use borrow.Author.Tests.{eq-eqb, ne_eqb}
use Rattle.wat.specs.Bytes.{byte}
use Rattle.wat.specs.Faults.{fault}
use Rattle.wat.specs.declared.LexError.TheVariants.{InvalidStringElement, InvalidStringEscape, InvalidHexDigit, Expected, UnexpectedEof}
use Rattle.wat.specs.declared.LexError.TheVariants.{NumberTooBig, InvalidUnicodeValue, LoneUnderscore, ConfusingUnicode, DoubleUnderscore}
use Rattle.wat.specs.declared.Settings.{Settings}
use Rattle.wat.specs.Utf8.{scalar}
use Rattle.wat.specs.Chars.{control, is_scalar}
use Rattle.wat.specs.Strings.{escapes}
use Rattle.wat.specs.declared.Num.{Num}
use Rattle.wat.specs.declared.Num.TheVariants.{Is as num, Lone as lone, Big as big, Double as double}
use Rattle.wat.specs.StringModel.{nothing, peek, hex_of, digits, encode, letter_of, Read, element, quote, refused}
use Rattle.wat.specs.StringModel.{close_by, number_by, first_by, brace_by, second_by, escape_by, hides, read_by, read}
use Rattle.utf8_chars.specs.Decoding.{Character}
use Rattle.lex_escapes.specs.Elements.{Counted, Element, Says}
use Rattle.lex_escapes.specs.declared.Read as declared
use Rattle.lex_classes.proofs.ConfusingLaws.{confusing_not}
use Rattle.wat.proofs.ElementFaults.{high_raw}
use Rattle.utf8_chars.proofs.DecodeLaws.{decoded_end}
use Rattle.lex_escapes.proofs.CharLaws.{ascii_character, alone, alone_hex, high, encoded, encode_short}
use Rattle.lex_escapes.proofs.CharLaws.{scalar_small}

-- ---- an answer and its bounds, by the place in the text

module _ (s : List ℕ) (at : ℕ) where
  pub an_element : {m : Read} {n : ℕ} {v : List ℕ} → m ≡ element n v → 1 ≤ n → at + n ≤ length s → length v ≤ n
      → Element (drop at s) m n v
  an_element e h k l = record { is = e; some = h; fits = omega (arith, length-drop at s); short = l }

  pub says_same : (r : declared.Read) {m m' : Read} → m ≡ m' → Says (drop at s) m' r → Says (drop at s) m r
  says_same r e x = rw e x

-- ---- the text ends

module _ (t : List ℕ) (e : peek t ≡ nothing) where
  pub close_end : (n k : ℕ) → close_by n k (peek t) ≡ refused (fault UnexpectedEof (3 + k) (3 + k))
  unfolding close_by
  close_end n k = rw e

  pub first_end : (σ : Settings) → first_by σ (peek t) ≡ refused (fault UnexpectedEof 3 3)
  unfolding first_by
  first_end σ = rw e

  pub brace_end : (σ : Settings) → brace_by σ (peek t) ≡ refused (fault UnexpectedEof 2 2)
  unfolding brace_by
  brace_end σ = rw e

  pub second_end : (h : ℕ) → second_by h (peek t) ≡ refused (fault UnexpectedEof 2 2)
  unfolding second_by
  second_end h = rw e

  pub escape_end : (σ : Settings) → escape_by σ (peek t) ≡ refused (fault UnexpectedEof 1 1)
  unfolding escape_by
  escape_end σ = rw e

  pub read_nothing : (σ : Settings) → read σ t ≡ refused (fault UnexpectedEof 0 0)
  unfolding read read_by
  read_nothing σ = rw e

-- ---- the number, of k bytes, has been read

module _ (t : List ℕ) (m : Num) where
  pub number_value :
      (n k : ℕ) → num n k ≡ m → is_scalar n ≡ false → 1 ≤ k
      → number_by t m ≡ refused (fault (InvalidUnicodeValue n) (2 + k) (3 + k))
  unfolding number_by
  number_value n k q e h = rw (← q, e, number_by) (ap (λ (p : ℕ). refused (fault (InvalidUnicodeValue n) p (3 + k))) (omega arith))

  pub number_lone : (k : ℕ) → lone k ≡ m → 1 ≤ k → number_by t m ≡ refused (fault LoneUnderscore (2 + k) (3 + k))
  unfolding number_by
  number_lone k q h = rw (← q) (ap (λ (p : ℕ). refused (fault LoneUnderscore p (3 + k))) (omega arith))

  pub number_big : (k : ℕ) → big k ≡ m → number_by t m ≡ refused (fault NumberTooBig (3 + k) (4 + k))
  unfolding number_by
  number_big k q = rw (← q)

  pub number_double : (k : ℕ) → double k ≡ m → number_by t m ≡ refused (fault DoubleUnderscore (3 + k) (4 + k))
  unfolding number_by
  number_double k q = rw (← q)

-- the same, where the code has read it
module _ (t u : List ℕ) (m : Num) where
  pub read_value :
      (n k : ℕ) → Counted u m (num n k) → is_scalar n ≡ false
      → number_by t m ≡ refused (fault (InvalidUnicodeValue n) (2 + k) (3 + k))
  read_value n k x e = number_value t m n k x.is e x.some

  pub read_lone : (k : ℕ) → Counted u m (lone k) → number_by t m ≡ refused (fault LoneUnderscore (2 + k) (3 + k))
  read_lone k x = number_lone t m k x.is x.some

pub number_scalar :
    (s : List ℕ) (i j n k : ℕ) (m : Num) → num n k ≡ m → j ≡ i + k → is_scalar n ≡ true
    → number_by (drop i s) m ≡ close_by n k (peek (drop j s))
unfolding number_by
number_scalar s i j n k m q o e = rw (← q, e, o, number_by, drop-drop k i s)

-- ---- a character stands there

module _ (s : List ℕ) (i v n : ℕ) (ch : Character s i v n) where
  c : List ℕ
  c = take n (drop i s)

  is : (x : ℕ) → v ≡ x → eqb (scalar c) x ≡ true
  unfolding c
  is x e = eq-eqb (scalar c) x (sym ch.value ∙ e)

  not : (x : ℕ) → (v ≡ x → ⊥) → eqb (scalar c) x ≡ false
  unfolding c
  not x f = ne_eqb (scalar c) x (λ e. f (ch.value ∙ e))

  pub close_yes : (m k : ℕ) → v ≡ byte "}" → close_by m k (peek (drop i s)) ≡ element (4 + k) (encode m)
  unfolding close_by c
  close_yes m k e = rw (ch.peeked, is (byte "}") e, close_by)

  pub close_no :
      (m k : ℕ) → (v ≡ byte "}" → ⊥)
      → close_by m k (peek (drop i s)) ≡ refused (fault (Expected (byte "}") v) (3 + k) (3 + (k + n)))
  unfolding close_by c
  close_no m k f = rw (ch.peeked, not (byte "}") f, close_by, ← ch.value, ch.long)

  pub first_yes :
      (σ : Settings) (j d : ℕ) → j ≡ i + 1 → hex_of v ≡ some d
      → first_by σ (peek (drop i s)) ≡ number_by (drop i s) (digits σ false d 1 (drop j s))
  unfolding first_by c
  first_yes σ j d q e =
      let h : hex_of (scalar c) ≡ some d = rw ch.value at e in
      let o : n ≡ 1 = alone_hex s i v n ch d e in
      let w : c ++ drop (i + n) s ≡ drop i s = rw (← (drop-drop n i s)) (take-append-drop n (drop i s)) in
      rw (ch.peeked, h, first_by) (rw (w, o, q))

  pub first_no : (σ : Settings) → hex_of v ≡ none → first_by σ (peek (drop i s)) ≡ refused (fault (InvalidHexDigit v) 3 (3 + n))
  unfolding first_by c
  first_no σ e =
      let h : hex_of (scalar c) ≡ none = rw ch.value at e in
      rw (ch.peeked, h, first_by, ← ch.value, ch.long)

  pub brace_yes : (σ : Settings) (j : ℕ) → j ≡ i + 1 → v ≡ byte "{"
      → brace_by σ (peek (drop i s)) ≡ first_by σ (peek (drop j s))
  unfolding brace_by c
  brace_yes σ j q e =
      let o : n ≡ 1 = alone s i v n ch (omega arith) in
      rw (ch.peeked, is (byte "{") e, brace_by) (rw (o, q))

  pub brace_no : (σ : Settings) → (v ≡ byte "{" → ⊥)
      → brace_by σ (peek (drop i s)) ≡ refused (fault (Expected (byte "{") v) 2 (2 + n))
  unfolding brace_by c
  brace_no σ f = rw (ch.peeked, not (byte "{") f, brace_by, ← ch.value, ch.long)

  pub second_yes : (h l : ℕ) → hex_of v ≡ some l → second_by h (peek (drop i s)) ≡ element 3 ((h * 16 + l) ∷ [])
  unfolding second_by c
  second_yes h l e =
      let q : hex_of (scalar c) ≡ some l = rw ch.value at e in
      rw (ch.peeked, q, second_by)

  pub second_no : (h : ℕ) → hex_of v ≡ none → second_by h (peek (drop i s)) ≡ refused (fault (InvalidHexDigit v) 2 (2 + n))
  unfolding second_by c
  second_no h e =
      let q : hex_of (scalar c) ≡ none = rw ch.value at e in
      rw (ch.peeked, q, second_by, ← ch.value, ch.long)

  pub escape_unicode : (σ : Settings) (j : ℕ) → j ≡ i + 1 → v ≡ byte "u"
      → escape_by σ (peek (drop i s)) ≡ brace_by σ (peek (drop j s))
  unfolding escape_by c
  escape_unicode σ j q e =
      let o : n ≡ 1 = alone s i v n ch (omega arith) in
      rw (ch.peeked, is (byte "u") e, escape_by) (rw (o, q))

  module _ (f : v ≡ byte "u" → ⊥) where
    pub escape_letter : (σ : Settings) (x : ℕ) → letter_of escapes v ≡ some x
        → escape_by σ (peek (drop i s)) ≡ element 2 (x ∷ [])
    unfolding escape_by c
    escape_letter σ x e =
        let q : letter_of escapes (scalar c) ≡ some x = rw ch.value at e in
        rw (ch.peeked, not (byte "u") f, q, escape_by)

    module _ (l : letter_of escapes v ≡ none) where
      pub escape_digit :
          (σ : Settings) (j d : ℕ) → j ≡ i + 1 → hex_of v ≡ some d
          → escape_by σ (peek (drop i s)) ≡ second_by d (peek (drop j s))
      unfolding escape_by c
      escape_digit σ j d q e =
          let p : letter_of escapes (scalar c) ≡ none = rw ch.value at l in
          let h : hex_of (scalar c) ≡ some d = rw ch.value at e in
          let o : n ≡ 1 = alone_hex s i v n ch d e in
          rw (ch.peeked, not (byte "u") f, p, h, escape_by) (rw (o, q))

      pub escape_no : (σ : Settings) → hex_of v ≡ none
          → escape_by σ (peek (drop i s)) ≡ refused (fault (InvalidStringEscape v) 1 (1 + n))
      unfolding escape_by c
      escape_no σ e =
          let p : letter_of escapes (scalar c) ≡ none = rw ch.value at l in
          let q : hex_of (scalar c) ≡ none = rw ch.value at e in
          rw (ch.peeked, not (byte "u") f, p, q, escape_by, ← ch.value, ch.long)

  module _ (σ : Settings) where
    pub read_quoted : v ≡ byte "\"" → read σ (drop i s) ≡ quote
    unfolding read read_by c
    read_quoted e = rw (ch.peeked, is (byte "\"") e, read_by)

    module _ (f : v ≡ byte "\"" → ⊥) where
      pub read_escape : v ≡ byte "\\" → read σ (drop i s) ≡ escape_by σ (peek (drop (i + 1) s))
      unfolding read read_by c
      read_escape e =
          let o : n ≡ 1 = alone s i v n ch (omega arith) in
          rw (ch.peeked, not (byte "\"") f, is (byte "\\") e, read_by) (rw o)

      module _ (g : v ≡ byte "\\" → ⊥) where
        pub read_control : control v ≡ true → read σ (drop i s) ≡ refused (fault (InvalidStringElement v) 0 n)
        unfolding read read_by c
        read_control e =
            let p : control (scalar c) ≡ true = rw ch.value at e in
            rw (ch.peeked, not (byte "\"") f, not (byte "\\") g, p, read_by, ← ch.value, ch.long)

        module _ (h : control v ≡ false) where
          pub read_hidden : hides σ v ≡ true → read σ (drop i s) ≡ refused (fault (ConfusingUnicode v) 0 n)
          unfolding read read_by c
          read_hidden e =
              let p : control (scalar c) ≡ false = rw ch.value at h in
              let q : hides σ (scalar c) ≡ true = rw ch.value at e in
              rw (ch.peeked, not (byte "\"") f, not (byte "\\") g, p, q, read_by, ← ch.value, ch.long)

          pub read_raw : hides σ v ≡ false → read σ (drop i s) ≡ element n (encode v)
          unfolding read read_by c
          read_raw e =
              let p : control (scalar c) ≡ false = rw ch.value at h in
              let q : hides σ (scalar c) ≡ false = rw ch.value at e in
              rw (ch.peeked, not (byte "\"") f, not (byte "\\") g, p, q, read_by, ch.long, encoded s i v n ch)

-- no ASCII character is hidden
pub ascii_shown : (σ : Settings) (v : ℕ) → v < 0x80 → hides σ v ≡ false
unfolding hides
ascii_shown σ v h = go σ.allow_confusing refl
  where
    go : (b : Bool) → σ.allow_confusing ≡ b → hides σ v ≡ false
    go true e = rw (e, hides)
    go false e = rw (e, hides) (confusing_not v (omega arith))

-- ---- the same of an ASCII byte, which is a character by itself

module _ (s : List ℕ) (at v : ℕ) (σ : Settings) (h : at < length s) (l : get_or s at 0 < 0x80) (q : v ≡ get_or s at 0) where
  here : Character s at v 1
  here = ascii_character s at v h l q

  pub ascii_quoted : v ≡ byte "\"" → read σ (drop at s) ≡ quote
  ascii_quoted e = read_quoted s at v 1 here σ e

  module _ (f : v ≡ byte "\"" → ⊥) where
    pub ascii_escape : v ≡ byte "\\" → read σ (drop at s) ≡ escape_by σ (peek (drop (at + 1) s))
    ascii_escape e = read_escape s at v 1 here σ f e

    module _ (g : v ≡ byte "\\" → ⊥) where
      pub ascii_control : control v ≡ true → read σ (drop at s) ≡ refused (fault (InvalidStringElement v) 0 1)
      ascii_control e = read_control s at v 1 here σ f g e

      pub ascii_raw : control v ≡ false → read σ (drop at s) ≡ element 1 (encode v)
      ascii_raw e = read_raw s at v 1 here σ f g e (ascii_shown σ v (omega arith))

  pub ascii_long : length (encode v) ≡ 1
  ascii_long = ap length (encoded s at v 1 here) ∙ here.long

-- ---- the same of a character whose first byte is not ASCII

module _ (s : List ℕ) (at v n : ℕ) (σ : Settings) (ch : Character s at v n) (h : 0x80 ≤ get_or s at 0) where
  above : 0x80 ≤ v
  above = high s at v n ch h

  pub wide_hidden : hides σ v ≡ true → read σ (drop at s) ≡ refused (fault (ConfusingUnicode v) 0 n)
  wide_hidden e =
      let w = above in
      read_hidden s at v n ch σ (λ q. omega arith) (λ q. omega arith) (high_raw v w) e

  pub wide_raw : hides σ v ≡ false → read σ (drop at s) ≡ element n (encode v)
  wide_raw e =
      let w = above in
      read_raw s at v n ch σ (λ q. omega arith) (λ q. omega arith) (high_raw v w) e

  pub wide_long : length (encode v) ≡ n
  wide_long = ap length (encoded s at v n ch) ∙ ch.long

-- what is left of the text at a place
pub left_long : (s : List ℕ) (at : ℕ) → length (drop at s) ≡ length s - at
left_long s at = length-drop at s

-- the ways to return, by the function
pub ruleset closes = (left_long, close_end, close_yes, close_no, encode_short, scalar_small)

pub ruleset numbers = (left_long, says_same, number_scalar, read_value, read_lone, number_big, number_double)

pub ruleset firsts = (left_long, says_same, first_end, first_yes, first_no)

pub ruleset braces = (left_long, says_same, brace_end, brace_yes, brace_no)

pub ruleset seconds = (left_long, second_end, second_yes, second_no)

pub ruleset escaped = (
  left_long,
  says_same,
  escape_end,
  escape_unicode,
  escape_letter,
  escape_digit,
  escape_no,
)

pub ruleset wides = (left_long, read_nothing, wide_hidden, wide_raw, wide_long)

pub ruleset elements =
    (left_long, says_same, decoded_end, read_nothing, ascii_quoted, ascii_escape, ascii_control, ascii_raw, ascii_long)
