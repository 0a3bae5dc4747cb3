-- The promises of the calls exported to C: their words are those of the answer that the definitions give.
use Rattle.std.specs.Prelude.{ℕ, List, get_or, Result}
use Rattle.wat.specs.declared.{Token.Token, Refusal.Refusal, Parsed.Parsed, Listed.Listed}
use Rattle.wat.specs.Checked.{Checked}
use Rattle.wat_values.specs.IntegerSign.{IntegerSign}
use Rattle.wat_values.specs.{Answered.Reading, Named.NameReading}
use Rattle.wat_values.specs.{FloatSign.FloatSign, IntegerValue.IntegerValue}
use Rattle.wat_values.specs.Named as name
use Rattle.wat_forms.specs.Folded.{Folded}
use Rattle.wat.specs.declared.Settings.{Settings}
use Rattle.wat.specs.Found.{Found}
use Rattle.wat.specs.Utf8.{Says}
use Rattle.wat.specs.Calls.{Parses, Annotates}
use Rattle.wat.specs.Division.{Listing}
use Rattle.wat_forms.specs.Forms.{Folds}
use Rattle.wat_values.specs.Reading.{ReadsName, ReadsSign, ReadsNegative}
use Rattle.wat_values.specs.Integers.{ReadsWord}
use Rattle.messages.specs.ByNumber.{TellsBy}
use Rattle.c_words.specs.Words.{checked_words, refused_words, found_words, parsed_words, listed_words, folded_words}
use Rattle.c_read_words.specs.Words.{reading_words, name_words, integer_sign_words, integer_words, float_sign_words}
use Rattle.c_read_words.specs.Words.{message_words}
use Rattle.c_asked.specs.Asked.{Denotes, DenotesNone}
use Rattle.read_call.specs.ByNumber.{ReadBy, Nowhere}

pub data Utf8Checked (text : List ℕ) : List ℕ → Type 0 where
  checked : (r : Checked) → Says text r → Utf8Checked text (checked_words r)

pub data ParsedWords (σ : Settings) (text : List ℕ) (pos : ℕ) : List ℕ → Type 0 where
  parsed : {r : Parsed} → Parses σ text pos r → ParsedWords σ text pos (parsed_words r)

pub data AnnotatedWords (σ : Settings) (text : List ℕ) (pos : ℕ) : List ℕ → Type 0 where
  annotated : (f : Found) → Annotates σ text pos f → AnnotatedWords σ text pos (found_words f)

pub data ListedWords (σ : Settings) (text : List ℕ) (start budget : ℕ) (list : List ℕ) : List ℕ → List ℕ → Type 0 where
  listed : {r : Listed} {l : List ℕ} → Listing σ text start budget list r l
      → ListedWords σ text start budget list (listed_words r) l

pub data FoldedWords (σ : Settings) (text : List ℕ) (pos : ℕ) : List ℕ → Type 0 where
  folded : {r : Folded} → Folds σ text pos r → FoldedWords σ text pos (folded_words r)

-- ---- readers: the token is given by the words of its kind, offset and length

-- words that name no token are refused at the offset that they give: 1 to 4, then 30
pub record Nameless (text w : List ℕ) (r : Refusal) (p : ℕ) : Type 0 where
  pub none : DenotesNone w
  pub at : Nowhere text (get_or w 1 0) r p

-- the first call of the reader that has the number n
pub data ReadWords (n : ℕ) (text w buffer : List ℕ) : List ℕ → List ℕ → Type 0 where
  read : {t : Token} {a : Reading} {b : List ℕ} → Denotes w t → ReadBy n text t buffer a b
      → ReadWords n text w buffer (reading_words a) b
  nameless : {r : Refusal} {p : ℕ} → Nameless text w r p → ReadWords n text w buffer (refused_words r p) buffer

-- the name call
pub data NameWords (text w buffer : List ℕ) : List ℕ → List ℕ → Type 0 where
  read : {t : Token} {a : NameReading} {b : List ℕ} → Denotes w t → ReadsName text t buffer a b
      → NameWords text w buffer (name_words a) b
  nameless : {r : Refusal} {p : ℕ} → Nameless text w r p → NameWords text w buffer (name_words (name.Refused r p)) buffer

pub data IntegerSignWords (text w : List ℕ) : List ℕ → Type 0 where
  read : {t : Token} (s : IntegerSign) → Denotes w t → ReadsSign text t s → IntegerSignWords text w (integer_sign_words s)
  nameless : {r : Refusal} {p : ℕ} → Nameless text w r p → IntegerSignWords text w (refused_words r p)

-- an integer's value, as a word of N bits
pub data IntegerWords (N : ℕ) (text w : List ℕ) : List ℕ → Type 0 where
  read : {t : Token} (a : IntegerValue) → Denotes w t → ReadsWord N text t a
      → IntegerWords N text w (integer_words a)
  nameless : {r : Refusal} {p : ℕ} → Nameless text w r p → IntegerWords N text w (refused_words r p)

pub data FloatSignWords (text w : List ℕ) : List ℕ → Type 0 where
  read : {t : Token} (s : FloatSign) → Denotes w t → ReadsNegative text t s → FloatSignWords text w (float_sign_words s)
  nameless : {r : Refusal} {p : ℕ} → Nameless text w r p → FloatSignWords text w (refused_words r p)

-- ---- messages; the second call and the place counter have theirs in the specs of `c_spots`

pub data MessageWords (n a b : ℕ) (buffer : List ℕ) : List ℕ → List ℕ → Type 0 where
  told : {m : Result ℕ Refusal} {c : List ℕ} → TellsBy n a b buffer m c → MessageWords n a b buffer (message_words m) c
