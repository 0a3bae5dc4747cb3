-- A text of idchars alone, or of raw ASCII characters between quotation marks, is well-formed, and lexes to one token: the word or
-- the string that it is. Assumes nothing.
use Prim.Native.Nat.{ℕ, suc, ◌-◌, ◌≤◌, ◌<◌}
use mathlib.Core.Path.{◌≡◌, refl, sym, ap, subst, ◌∙◌}
use mathlib.Core.Bool.{Bool, true}
use mathlib.Core.List.{List, [], ◌∷◌, ◌++◌, append-nil}
use native.Mathlib.Omega.{arith}
use lib.ListN.{length, get_or, take, drop, drop_of_length-le}
use lib.Seq.{slice, take-length, drop-cons}
use Rattle.std.specs.Prelude.{Ok}
use Rattle.wat.specs.declared.TokenKind.{TokenKind}
use Rattle.wat.specs.declared.TokenKind.TheVariants as kind
use Rattle.wat.specs.declared.Settings.{Settings}
use Rattle.wat.specs.Settings.{lenient}
use Rattle.wat.specs.Bytes.{byte, between, Each}
use Rattle.wat.specs.Utf8.{WellFormed}
use Rattle.wat.specs.Chars.{idchar}
use Rattle.wat.specs.Strings.{Elems, Str}
use Rattle.wat.specs.Tokens.{Run}
use Rattle.wat.specs.NumberModel.{classify}
use Rattle.wat.specs.LexModel.{word_kind, kind_of}
use Rattle.wat.proofs.Basics.{between_true}
use Rattle.wat.proofs.Scalars.{ascii}
use Rattle.wat.proofs.Runs.{ended, idchar_ascii, run_stops}
use Rattle.wat.proofs.Families.{family_idchar, family_quote}
use Rattle.wat_laws.proofs.RunKinds.{kind_one_string}
use Rattle.lex_numbers.proofs.SliceLaws.{at_byte}
use Rattle.lex_classes.specs.Ask.{raw}
use Rattle.lex_classes.specs.Scan.{Scanned}
use Rattle.lex_strings.proofs.RawLaws.{both, raw_one}
use Rattle.lex_token.specs.Alone.{Whole}
use Rattle.lex_token.proofs.SliceLaws.{next_end, slice_split}
use Rattle.lex_token.proofs.StepLaws.{stepped}
use Rattle.lex_token.proofs.RunLaws.{walked, scanned_on, scanned_each}
use Rattle.lex_token.proofs.ReservedLaws.{each_head, word_step, step_stops}

-- bytes that are ASCII by a test, before what is well-formed
ascii_formed : {test : ℕ → Bool} {w : List ℕ} (u : List ℕ) → ((x : ℕ) → test x ≡ true → x < 0x80) → Each test true w
    → WellFormed u → WellFormed (w ++ u)
ascii_formed u h Each.none g = g
ascii_formed u h (Each.next {x = x} e r) g = WellFormed.more (ascii x (h x e)) (ascii_formed u h r g)

-- ---- a word

module _ (s : List ℕ) (l : 0 < length s) {i : ℕ} (scan : Scanned idchar true s 0 i) (h : i ≡ length s) where
  all : Scanned idchar true s 0 (length s)
  all = subst (Scanned idchar true s 0) h scan

  first : idchar (get_or s 0 0) ≡ true
  first =
      let w : Each idchar true (get_or s 0 0 ∷ slice 1 (length s) s) =
      rw (at_byte s 0 (length s) l all.within) at (scanned_each all) in
      each_head w

  word_formed : WellFormed s
  word_formed =
      let m : length s ≤ length s = all.within in
      let e : drop (length s) s ≡ [] = drop_of_length-le s m in
      subst WellFormed (sym (slice_split s 0 (length s) m (omega arith)))
      (ascii_formed (drop (length s) s) idchar_ascii (scanned_each all) (rw e WellFormed.empty))

  whole : {k : TokenKind} → k ≡ word_kind (classify (slice 0 (length s) s)) (get_or s 0 0) → Whole s k
  whole e =
      let q = next_end (byte "\"") s (length s) all.within in
      record {
        formed = word_formed;
        stepped =
            λ σ. stepped σ s 0 l word_formed (family_idchar (get_or s 0 0) first) (word_step σ s 0 (length s) all word_formed q l e);
      }

pub word_whole : (s : List ℕ) (i : ℕ) (k : TokenKind) → Scanned idchar true s 0 i → i ≡ length s
    → k ≡ word_kind (classify (slice 0 (length s) s)) (get_or s 0 0) → 0 < length s → Whole s k
word_whole s i k scan h e l = whole s l scan h e

-- ---- a string

raw_ascii : (x : ℕ) → raw x ≡ true → x < 0x80
unfolding raw
raw_ascii x e = let k = between_true 0x20 0x7E x (both (between 0x20 0x7E x) _ e).0 in omega arith

-- raw characters stand for themselves
raw_elems : (σ : Settings) {w : List ℕ} → Each raw true w → Elems σ w w
raw_elems σ Each.none = Elems.none
raw_elems σ (Each.next {x = x} e r) = Elems.next ((raw_one (x ∷ []) 0 (omega arith) e).is σ) (raw_elems σ r)

-- between quotation marks they are a string, whatever the settings
module _ {w : List ℕ} (each : Each raw true w) where
  abbrev text : List ℕ
  text = byte "\"" ∷ (w ++ (byte "\"" ∷ []))

  string_formed : WellFormed text
  string_formed =
      let quote = ascii (byte "\"") (omega arith) in
      WellFormed.more quote (ascii_formed (byte "\"" ∷ []) raw_ascii each (WellFormed.more quote WellFormed.empty))

  string : (σ : Settings) → Str σ text w
  string σ = Str.quoted (raw_elems σ each)

  string_stops : (σ : Settings) → walked σ text ≡ Ok (length text)
  string_stops σ =
      let r : Run σ text = rw (append-nil text) at (Run.string (string σ) Run.none) in
      rw (append-nil text) at (run_stops (suc (length text)) r ended (omega arith))

  string_kind : kind_of (take (length text) text) ≡ kind.String
  string_kind = ap kind_of (take-length text) ∙ kind_one_string Each.none (string lenient)

  between_quotes : Whole text kind.String
  between_quotes = record {
    formed = string_formed;
    stepped = λ σ. stepped σ text 0 (omega arith) string_formed family_quote
        (step_stops σ text 0 (string_stops σ) string_kind (omega arith));
  }

module _ (s : List ℕ) {i : ℕ} (scan : Scanned raw true s 1 i) (l : 0 < length s) where
  pub string_whole : get_or s 0 0 ≡ byte "\"" → length s - i ≡ 1 → get_or s i 0 ≡ byte "\"" → Whole s kind.String
  string_whole o h c =
      let w = slice 1 i s in
      let m : length s ≤ suc i = omega arith in
      let n : drop (suc i) s ≡ [] = drop_of_length-le s m in
      let b : drop i s ≡ get_or s i 0 ∷ drop (suc i) s = drop-cons s i 0 (omega arith) in
      let a : s ≡ get_or s 0 0 ∷ drop 1 s = drop-cons s 0 0 l in
      let d : drop 1 s ≡ w ++ drop i s = slice_split s 1 i scan.within (scanned_on scan) in
      let e : s ≡ byte "\"" ∷ (w ++ (byte "\"" ∷ [])) = cc (a, o, d, b, c, n) in
      subst (λ (z : List ℕ). Whole z kind.String) (sym e) (between_quotes (scanned_each scan))
