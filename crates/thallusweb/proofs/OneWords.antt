-- The calls exported to C have one answer each, and leave one buffer, for every input; those of `thallusweb_part` and
-- `thallusweb_move` are in the laws of `c_spots`. Assumes nothing.
use Prim.Native.Nat.{ℕ}
use mathlib.Core.Path.{◌≡◌, refl, ap, subst}
use mathlib.Core.List.{List, [], ◌∷◌, ◌++◌}
use native.Mathlib.Omega.{arith}
use lib.ListN.{get_or, take, drop}
use Rattle.wat.specs.declared.{Token.Token, Refusal.Refusal}
use Rattle.wat_values.specs.Answered as reading
use Rattle.wat.specs.declared.Settings.{Settings}
use Rattle.wat_values.specs.Reading.{ReadsName, ReadsSign, ReadsNegative, Second}
use Rattle.wat_values.specs.Integers.{ReadsWord}
use Rattle.wat.proofs.Basics.{differ}
use Rattle.wat.proofs.Utf8Laws.{says_one}
use Rattle.wat_laws.proofs.OneCall.{parses_one, annotates_one}
use Rattle.wat_laws.proofs.Listings.{listing_one}
use Rattle.wat_forms.proofs.FoldLaws.{folds_one}
use Rattle.wat_values.proofs.OneReading.{reads_name_one, reads_sign_one, reads_negative_one}
use Rattle.wat_values.proofs.IntegerLaws.{reads_word_one}
use Rattle.messages.proofs.ByNumberLaws.{tells_by_one}
use Rattle.c_words.specs.Words.{checked_words, refused_words, found_words, parsed_words, listed_words, folded_words}
use Rattle.c_read_words.specs.Words.{reading_words, name_words, integer_sign_words, integer_words, float_sign_words, message_words}
use Rattle.c_asked.proofs.OneAsked.{named_one, named_or_not}
use Rattle.c_spots.specs.Spots.{PartWords}
use Rattle.read_call.specs.ByNumber.{ReadBy}
use Rattle.read_call.proofs.OneReader.{nowhere_one, read_by_one}
use Rattle.thallusweb.specs.Promises.{Utf8Checked, ParsedWords, AnnotatedWords, ListedWords, Nameless, ReadWords}
use Rattle.thallusweb.specs.Promises.{NameWords, FoldedWords, IntegerSignWords, IntegerWords, FloatSignWords, MessageWords}

pub utf8_checked_one : {text a b : List ℕ} → Utf8Checked text a → Utf8Checked text b → a ≡ b
utf8_checked_one {text} (Utf8Checked.checked r s) (Utf8Checked.checked q t) = ap checked_words (says_one text r q s t)

pub parsed_words_one : {σ : Settings} {text a b : List ℕ} {pos : ℕ} → ParsedWords σ text pos a → ParsedWords σ text pos b
    → a ≡ b
parsed_words_one (ParsedWords.parsed p) (ParsedWords.parsed q) = ap parsed_words (parses_one p q)

pub annotated_words_one : {σ : Settings} {text a b : List ℕ} {pos : ℕ} → AnnotatedWords σ text pos a
    → AnnotatedWords σ text pos b → a ≡ b
annotated_words_one (AnnotatedWords.annotated f p) (AnnotatedWords.annotated g q) = ap found_words (annotates_one p q)

pub listed_words_one : {σ : Settings} {text list a b l m : List ℕ} {start budget : ℕ}
    → ListedWords σ text start budget list a l → ListedWords σ text start budget list b m → (a ≡ b) × (l ≡ m)
listed_words_one (ListedWords.listed p) (ListedWords.listed q) =
    let z = listing_one p q in
    (ap listed_words z.0, z.1)

pub folded_words_one : {σ : Settings} {text a b : List ℕ} {pos : ℕ} → FoldedWords σ text pos a → FoldedWords σ text pos b
    → a ≡ b
folded_words_one (FoldedWords.folded p) (FoldedWords.folded q) = ap folded_words (folds_one p q)

-- ---- readers

nameless_one : {text w : List ℕ} {r q : Refusal} {o p : ℕ} → Nameless text w r o → Nameless text w q p
    → refused_words r o ≡ refused_words q p
nameless_one x y = let z = nowhere_one x.at y.at in cc (z.0, z.1)

pub read_words_one : {n : ℕ} {text w buffer a b c d : List ℕ} → ReadWords n text w buffer a c → ReadWords n text w buffer b d
    → (a ≡ b) × (c ≡ d)
read_words_one {n} {text} {w} {buffer} {c = c} (ReadWords.read {a = x} p r) (ReadWords.read q s) =
    let z = read_by_one (subst (λ (t : Token). ReadBy n text t buffer x c) (named_one p q) r) s in
    (ap reading_words z.0, z.1)
read_words_one (ReadWords.read p r) (ReadWords.nameless x) = absurd (named_or_not p x.none)
read_words_one (ReadWords.nameless x) (ReadWords.read p r) = absurd (named_or_not p x.none)
read_words_one (ReadWords.nameless x) (ReadWords.nameless y) = (nameless_one x y, refl)

pub name_words_one : {text w buffer a b c d : List ℕ} → NameWords text w buffer a c → NameWords text w buffer b d
    → (a ≡ b) × (c ≡ d)
name_words_one {text} {w} {buffer} {c = c} (NameWords.read {a = x} p r) (NameWords.read q s) =
    let z = reads_name_one (subst (λ (t : Token). ReadsName text t buffer x c) (named_one p q) r) s in
    (ap name_words z.0, z.1)
name_words_one (NameWords.read p r) (NameWords.nameless x) = absurd (named_or_not p x.none)
name_words_one (NameWords.nameless x) (NameWords.read p r) = absurd (named_or_not p x.none)
name_words_one (NameWords.nameless x) (NameWords.nameless y) = (ap (λ (u : List ℕ). u ++ (0 ∷ [])) (nameless_one x y), refl)

pub integer_sign_words_one : {text w a b : List ℕ} → IntegerSignWords text w a → IntegerSignWords text w b → a ≡ b
integer_sign_words_one {text} {w} (IntegerSignWords.read i p r) (IntegerSignWords.read j q s) =
    ap integer_sign_words (reads_sign_one (subst (λ (t : Token). ReadsSign text t i) (named_one p q) r) s)
integer_sign_words_one (IntegerSignWords.read i p r) (IntegerSignWords.nameless x) = absurd (named_or_not p x.none)
integer_sign_words_one (IntegerSignWords.nameless x) (IntegerSignWords.read i p r) = absurd (named_or_not p x.none)
integer_sign_words_one (IntegerSignWords.nameless x) (IntegerSignWords.nameless y) = nameless_one x y

pub integer_words_one : {N : ℕ} {text w a b : List ℕ} → IntegerWords N text w a → IntegerWords N text w b → a ≡ b
integer_words_one {N} {text} (IntegerWords.read i p r) (IntegerWords.read j q s) =
    ap integer_words (reads_word_one (subst (λ (t : Token). ReadsWord N text t i) (named_one p q) r) s)
integer_words_one (IntegerWords.read i p r) (IntegerWords.nameless x) = absurd (named_or_not p x.none)
integer_words_one (IntegerWords.nameless x) (IntegerWords.read i p r) = absurd (named_or_not p x.none)
integer_words_one (IntegerWords.nameless x) (IntegerWords.nameless y) = nameless_one x y

pub float_sign_words_one : {text w a b : List ℕ} → FloatSignWords text w a → FloatSignWords text w b → a ≡ b
float_sign_words_one {text} {w} (FloatSignWords.read i p r) (FloatSignWords.read j q s) =
    ap float_sign_words (reads_negative_one (subst (λ (t : Token). ReadsNegative text t i) (named_one p q) r) s)
float_sign_words_one (FloatSignWords.read i p r) (FloatSignWords.nameless x) = absurd (named_or_not p x.none)
float_sign_words_one (FloatSignWords.nameless x) (FloatSignWords.read i p r) = absurd (named_or_not p x.none)
float_sign_words_one (FloatSignWords.nameless x) (FloatSignWords.nameless y) = nameless_one x y

-- ---- the second call

-- so many bytes from a start on, as the last two of three words say
abbrev pub taken : List ℕ → List ℕ → List ℕ
taken s p = take (get_or p 2 0) (drop (get_or p 1 0) s)

-- the words of the second call name the bytes that `Second` gives of the text, and of the buffer
module _ {text buffer w : List ℕ} where
  pub part_text : {p : List ℕ} → get_or w 0 0 ≡ 1 → PartWords text buffer w p
      → Second text buffer (reading.Text (get_or w 1 0) (get_or w 2 0)) (taken text p)
  part_text e (PartWords.in_text f h) = Second.in_text h
  part_text e (PartWords.in_buffer f h) = absurd (omega arith)
  part_text e (PartWords.none t b) =
      Second.none (λ s l (q : reading.Text (get_or w 1 0) (get_or w 2 0) ≡ reading.Text s l).
      let i : get_or w 1 0 ≡ s = cc in let j : get_or w 2 0 ≡ l = cc in omega (arith, t e))
      (λ s l (q : reading.Text (get_or w 1 0) (get_or w 2 0) ≡ reading.Buffer s l). differ (cc))

  pub part_buffer : {p : List ℕ} → get_or w 0 0 ≡ 3 → PartWords text buffer w p
      → Second text buffer (reading.Buffer (get_or w 1 0) (get_or w 2 0)) (taken buffer p)
  part_buffer e (PartWords.in_text f h) = absurd (omega arith)
  part_buffer e (PartWords.in_buffer f h) = Second.in_buffer h
  part_buffer e (PartWords.none t b) =
      Second.none (λ s l (q : reading.Buffer (get_or w 1 0) (get_or w 2 0) ≡ reading.Text s l). differ (cc))
      (λ s l (q : reading.Buffer (get_or w 1 0) (get_or w 2 0) ≡ reading.Buffer s l).
      let i : get_or w 1 0 ≡ s = cc in let j : get_or w 2 0 ≡ l = cc in omega (arith, b e))

-- ---- messages

pub message_words_one : {n a b : ℕ} {buffer u v c d : List ℕ} → MessageWords n a b buffer u c → MessageWords n a b buffer v d
    → (u ≡ v) × (c ≡ d)
message_words_one (MessageWords.told p) (MessageWords.told q) = let z = tells_by_one p q in (ap message_words z.0, z.1)
