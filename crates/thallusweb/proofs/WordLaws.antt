-- From the answers of the calls to the promises of their words. Assumes nothing.
use Prim.Native.Nat.{ℕ}
use mathlib.Core.Path.{◌≡◌, sym, subst}
use mathlib.Core.List.{List}
use lib.ListN.{get_or}
use Rattle.std.specs.Prelude.{Result}
use Rattle.wat.specs.declared.{Parsed.Parsed, Listed.Listed, Token.Token, Refusal.Refusal}
use Rattle.wat.specs.Checked.{Checked}
use Rattle.wat_values.specs.IntegerSign.{IntegerSign}
use Rattle.wat_values.specs.{Answered.Reading, Named.NameReading}
use Rattle.wat_values.specs.IntegerValue.{IntegerValue}
use Rattle.wat_values.specs.FloatSign.{FloatSign}
use Rattle.wat_forms.specs.Folded.{Folded}
use Rattle.wat.specs.declared.Settings.{Settings}
use Rattle.wat.specs.Found.{Found}
use Rattle.wat.specs.Utf8.{Says}
use Rattle.wat.specs.Calls.{Parses, Annotates}
use Rattle.wat.specs.Division.{Listing}
use Rattle.wat_forms.specs.Forms.{Folds}
use Rattle.wat_values.specs.Reading.{ReadsName, ReadsSign, ReadsNegative}
use Rattle.wat_values.specs.Integers.{ReadsWord}
use Rattle.messages.specs.ByNumber.{TellsBy}
use Rattle.c_words.specs.Words.{checked_words, found_words, parsed_words, listed_words, folded_words}
use Rattle.c_read_words.specs.Words.{reading_words, name_words, integer_sign_words, integer_words, float_sign_words, message_words}
use Rattle.c_asked.specs.Asked.{settings_of, Denotes, DenotesNone, Empty}
use Rattle.read_call.specs.ByNumber.{ReadBy, Nowhere}
use Rattle.read_call.proofs.NowhereLaws.{read_nowhere, name_nowhere, sign_nowhere, word_nowhere, negative_nowhere}
use Rattle.thallusweb.specs.Promises.{Utf8Checked, ParsedWords, AnnotatedWords, ListedWords, Nameless, ReadWords}
use Rattle.thallusweb.specs.Promises.{NameWords, FoldedWords, IntegerSignWords, IntegerWords, FloatSignWords, MessageWords}

pub checked_words_lem : {text w : List ℕ} (r : Checked) → Says text r → w ≡ checked_words r → Utf8Checked text w
checked_words_lem {text} r s e = subst (Utf8Checked text) (sym e) (Utf8Checked.checked r s)

-- the lexer's calls, by the settings that a word says
module _ (word : ℕ) {σ : Settings} (is : σ ≡ settings_of word) where
  -- what holds by these settings, of an answer's words, holds by those that the word says, of words equal to them
  said : (P : Settings → List ℕ → Type 0) (u : List ℕ) {w : List ℕ} → P σ u → w ≡ u → P (settings_of word) w
  said P u {w} p e = subst (λ (τ : Settings). P τ w) is (subst (P σ) (sym e) p)

  module _ {text : List ℕ} where
    pub parsed_words_lem : {w : List ℕ} {pos : ℕ} {r : Parsed} → Parses σ text pos r → w ≡ parsed_words r
        → ParsedWords (settings_of word) text pos w
    parsed_words_lem {pos = pos} {r} p e = said (λ τ v. ParsedWords τ text pos v) (parsed_words r) (ParsedWords.parsed p) e

    pub annotated_words : {w : List ℕ} {pos : ℕ} (f : Found) → Annotates σ text pos f → w ≡ found_words f
        → AnnotatedWords (settings_of word) text pos w
    annotated_words {pos = pos} f a e =
        said (λ τ v. AnnotatedWords τ text pos v) (found_words f) (AnnotatedWords.annotated f a) e

    pub listed_words_lem : {list w l : List ℕ} {start budget : ℕ} {r : Listed} → Listing σ text start budget list r l
        → w ≡ listed_words r
        → ListedWords (settings_of word) text start budget list w l
    listed_words_lem {list} {l = l} {start} {budget} {r} p e =
        said (λ τ v. ListedWords τ text start budget list v l) (listed_words r) (ListedWords.listed p) e

    pub folded_words_lem : {w : List ℕ} {pos : ℕ} {r : Folded} → Folds σ text pos r → w ≡ folded_words r
        → FoldedWords (settings_of word) text pos w
    folded_words_lem {pos = pos} {r} p e = said (λ τ v. FoldedWords τ text pos v) (folded_words r) (FoldedWords.folded p) e

-- ---- readers: what words that name no token stand for is nowhere

module _ {text w : List ℕ} {t : Token} where
  unnamed : {r : Refusal} {p : ℕ} → DenotesNone w → Empty (get_or w 1 0) t → Nowhere text t.offset r p → Nameless text w r p
  unnamed {r} {p} x e y = record { none = x; at = subst (λ (o : ℕ). Nowhere text o r p) e.stands y }

  -- a call's words are those of its answer where a token is named, and those of a refusal else
  module _ {n : ℕ} {buffer b v : List ℕ} {a : Reading} (r : ReadBy n text t buffer a b) (z : v ≡ reading_words a) where
    pub read_named : Denotes w t → ReadWords n text w buffer v b
    read_named q = subst (λ (u : List ℕ). ReadWords n text w buffer u b) (sym z) (ReadWords.read q r)

    pub read_unnamed : DenotesNone w → Empty (get_or w 1 0) t → ReadWords n text w buffer v b
    read_unnamed x e =
        subst (λ (u : List ℕ). ReadWords n text w buffer u b) (sym z)
        (read_nowhere e.long (λ (c : Reading) (d : List ℕ). ReadWords n text w buffer (reading_words c) d) r
        (λ q p y. ReadWords.nameless (unnamed x e y)))

  module _ {buffer b v : List ℕ} {a : NameReading} (r : ReadsName text t buffer a b) (z : v ≡ name_words a) where
    pub name_named : Denotes w t → NameWords text w buffer v b
    name_named q = subst (λ (u : List ℕ). NameWords text w buffer u b) (sym z) (NameWords.read q r)

    pub name_unnamed : DenotesNone w → Empty (get_or w 1 0) t → NameWords text w buffer v b
    name_unnamed x e =
        subst (λ (u : List ℕ). NameWords text w buffer u b) (sym z)
        (name_nowhere e.long (λ (c : NameReading) (d : List ℕ). NameWords text w buffer (name_words c) d) r
        (λ q p y. NameWords.nameless (unnamed x e y)))

  module _ {v : List ℕ} {s : IntegerSign} (r : ReadsSign text t s) (z : v ≡ integer_sign_words s) where
    pub integer_sign_named : Denotes w t → IntegerSignWords text w v
    integer_sign_named q = subst (IntegerSignWords text w) (sym z) (IntegerSignWords.read s q r)

    pub integer_sign_unnamed : DenotesNone w → Empty (get_or w 1 0) t → IntegerSignWords text w v
    integer_sign_unnamed x e =
        subst (IntegerSignWords text w) (sym z)
        (sign_nowhere e.long (λ (c : IntegerSign). IntegerSignWords text w (integer_sign_words c)) r
        (λ q p y. IntegerSignWords.nameless (unnamed x e y)))

  module _ {N : ℕ} {v : List ℕ} {a : IntegerValue} (r : ReadsWord N text t a) (z : v ≡ integer_words a) where
    pub integer_named : Denotes w t → IntegerWords N text w v
    integer_named q = subst (IntegerWords N text w) (sym z) (IntegerWords.read a q r)

    pub integer_unnamed : DenotesNone w → Empty (get_or w 1 0) t → IntegerWords N text w v
    integer_unnamed x e =
        subst (IntegerWords N text w) (sym z)
        (word_nowhere e.long (λ (c : IntegerValue). IntegerWords N text w (integer_words c)) r
        (λ q p y. IntegerWords.nameless (unnamed x e y)))

  module _ {v : List ℕ} {s : FloatSign} (r : ReadsNegative text t s) (z : v ≡ float_sign_words s) where
    pub float_sign_named : Denotes w t → FloatSignWords text w v
    float_sign_named q = subst (FloatSignWords text w) (sym z) (FloatSignWords.read s q r)

    pub float_sign_unnamed : DenotesNone w → Empty (get_or w 1 0) t → FloatSignWords text w v
    float_sign_unnamed x e =
        subst (FloatSignWords text w) (sym z)
        (negative_nowhere e.long (λ (c : FloatSign). FloatSignWords text w (float_sign_words c)) r
        (λ q p y. FloatSignWords.nameless (unnamed x e y)))

pub ruleset reads = (read_named, read_unnamed)

pub ruleset names = (name_named, name_unnamed)

pub ruleset integer_signs = (integer_sign_named, integer_sign_unnamed)

pub ruleset integers = (integer_named, integer_unnamed)

pub ruleset float_signs = (float_sign_named, float_sign_unnamed)

-- ---- messages

pub told_words :
    {n a b : ℕ} {buffer v c : List ℕ} (m : Result ℕ Refusal) → TellsBy n a b buffer m c → v ≡ message_words m
    → MessageWords n a b buffer v c
told_words {n} {a} {b} {buffer} {c = c} m t z = subst (λ (x : List ℕ). MessageWords n a b buffer x c) (sym z) (MessageWords.told t)
