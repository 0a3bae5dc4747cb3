-- A token of no bytes stands in no text: every reader refuses it, by 1 to 4 at its offset or by 30. Assumes nothing.
use Prim.Native.Nat.{ℕ}
use mathlib.Core.Path.{◌≡◌, ap}
use mathlib.Core.List.{List}
use lib.ListN.{take, drop}
use Rattle.wat.specs.declared.{Token.Token, Refusal.Refusal}
use Rattle.wat_values.specs.IntegerSign.{IntegerSign}
use Rattle.wat_values.specs.{Answered.Reading, Named.NameReading}
use Rattle.wat_values.specs.FloatSign.{FloatSign}
use Rattle.wat_values.specs.IntegerValue.{IntegerValue}
use Rattle.wat_values.specs.Answered as reading
use Rattle.wat_values.specs.Named as name
use Rattle.wat_values.specs.IntegerSign as integer
use Rattle.wat_values.specs.FloatSign as float
use Rattle.wat_values.specs.IntegerValue as value
use Rattle.wat_values.specs.Reading.{There, Missing, Read, ReadsName, ReadsSign, ReadsNegative}
use Rattle.wat_values.specs.Integers.{ReadsWord}
use Rattle.wat.proofs.Unique.{tok_some, token_longest}
use Rattle.read_call.specs.ByNumber.{ReadBy, Nowhere}

module _ {text : List ℕ} {token : Token} (none : token.len ≡ 0) where
  not_there : There text token → ⊥
  not_there t = tok_some (token_longest t.lexed).is (ap (λ (n : ℕ). take n (drop token.offset text)) none)

  nowhere : {r : Refusal} {p : ℕ} → Missing text token r p → Nowhere text token.offset r p
  nowhere (Missing.rejected t) = Nowhere.rejected t
  nowhere (Missing.not_there s n) = Nowhere.nothing s

  -- what is so of each such refusal is so of the answer

  pub read_nowhere : {n : ℕ} {buffer b : List ℕ} {a : Reading} (P : Reading → List ℕ → Type 0) → ReadBy n text token buffer a b
      → ((r : Refusal) (p : ℕ) → Nowhere text token.offset r p → P (reading.Refused r p) buffer) → P a b
  read_nowhere P (ReadBy.by e (Read.missing x)) f = f _ _ (nowhere x)
  read_nowhere P (ReadBy.by e (Read.other_kind t n)) f = absurd (not_there t)
  read_nowhere P (ReadBy.by e (Read.reads t r h)) f = absurd (not_there t)
  read_nowhere P (ReadBy.missing e x) f = f _ _ (nowhere x)
  read_nowhere P (ReadBy.nobody e t) f = absurd (not_there t)

  pub name_nowhere : {buffer b : List ℕ} {a : NameReading} (P : NameReading → List ℕ → Type 0) → ReadsName text token buffer a b
      → ((r : Refusal) (p : ℕ) → Nowhere text token.offset r p → P (name.Refused r p) buffer) → P a b
  name_nowhere P (ReadsName.no_name (Read.missing x)) f = f _ _ (nowhere x)
  name_nowhere P (ReadsName.no_name (Read.other_kind t n)) f = absurd (not_there t)
  name_nowhere P (ReadsName.no_name (Read.reads t r h)) f = absurd (not_there t)
  name_nowhere P (ReadsName.in_text s (Read.reads t r h)) f = absurd (not_there t)
  name_nowhere P (ReadsName.in_buffer s (Read.reads t r h)) f = absurd (not_there t)

  pub sign_nowhere : {s : IntegerSign} (P : IntegerSign → Type 0) → ReadsSign text token s
      → ((r : Refusal) (p : ℕ) → Nowhere text token.offset r p → P (integer.Refused r p)) → P s
  sign_nowhere P (ReadsSign.missing x) f = f _ _ (nowhere x)
  sign_nowhere P (ReadsSign.other_kind t n) f = absurd (not_there t)
  sign_nowhere P (ReadsSign.sign t e) f = absurd (not_there t)

  pub negative_nowhere : {s : FloatSign} (P : FloatSign → Type 0) → ReadsNegative text token s
      → ((r : Refusal) (p : ℕ) → Nowhere text token.offset r p → P (float.Refused r p)) → P s
  negative_nowhere P (ReadsNegative.missing x) f = f _ _ (nowhere x)
  negative_nowhere P (ReadsNegative.other_kind t n) f = absurd (not_there t)
  negative_nowhere P (ReadsNegative.sign t e) f = absurd (not_there t)

  pub word_nowhere : {N : ℕ} {a : IntegerValue} (P : IntegerValue → Type 0) → ReadsWord N text token a
      → ((r : Refusal) (p : ℕ) → Nowhere text token.offset r p → P (value.Refused r p)) → P a
  word_nowhere P (ReadsWord.missing x) f = f _ _ (nowhere x)
  word_nowhere P (ReadsWord.other_kind t n) f = absurd (not_there t)
  word_nowhere P (ReadsWord.integer t e w) f = absurd (not_there t)
