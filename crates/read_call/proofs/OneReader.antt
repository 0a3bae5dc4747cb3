-- The reader with a number has one answer and leaves one buffer, and words that name no token are refused in one way. Assumes nothing.
use Prim.Native.Nat.{ℕ}
use mathlib.Core.Path.{◌≡◌, refl, sym, ◌∙◌, subst}
use mathlib.Core.List.{List}
use mathlib.Core.Option.{Option, none, some}
use Rattle.wat.specs.declared.{Token.Token, Refusal.Refusal}
use Rattle.wat_values.specs.Answered.{Reading}
use Rattle.wat_values.specs.Reading.{Read}
use Rattle.wat_values.specs.Values.{Reader}
use Rattle.wat.proofs.Basics.{differ}
use Rattle.wat_laws.proofs.OneCall.{rejected_one, stands_or_rejected}
use Rattle.wat_values.proofs.OneReading.{missing_one, there_or_missing, read_one}
use Rattle.read_call.specs.ByNumber.{ReadBy, Nowhere}

pub nowhere_one : {text : List ℕ} {offset : ℕ} {r q : Refusal} {o p : ℕ} → Nowhere text offset r o → Nowhere text offset q p
    → (r ≡ q) × (o ≡ p)
nowhere_one (Nowhere.rejected x) (Nowhere.rejected y) = rejected_one x y
nowhere_one (Nowhere.rejected x) (Nowhere.nothing s) = absurd (stands_or_rejected s x)
nowhere_one (Nowhere.nothing s) (Nowhere.rejected x) = absurd (stands_or_rejected s x)
nowhere_one (Nowhere.nothing s) (Nowhere.nothing t) = (refl, refl)

same_reader : {o : Option Reader} {r q : Reader} → o ≡ some r → o ≡ some q → r ≡ q
same_reader a b = cc

some_none : {o : Option Reader} {r : Reader} → o ≡ some r → o ≡ none → ⊥
some_none {r = r} a b = let z : some r ≡ none = sym a ∙ b in differ (cc)

pub read_by_one : {n : ℕ} {text buffer b c : List ℕ} {t : Token} {x y : Reading} → ReadBy n text t buffer x b
    → ReadBy n text t buffer y c → (x ≡ y) × (b ≡ c)
read_by_one {text = text} {buffer = buffer} {b = b} {t = t} {x = x} (ReadBy.by {reader = r} e p) (ReadBy.by {reader = q} f s) =
    read_one (subst (λ (z : Reader). Read z text t buffer x b) (same_reader e f) p) s
read_by_one (ReadBy.by e p) (ReadBy.missing f s) = absurd (some_none e f)
read_by_one (ReadBy.by e p) (ReadBy.nobody f s) = absurd (some_none e f)
read_by_one (ReadBy.missing e p) (ReadBy.by f s) = absurd (some_none f e)
read_by_one (ReadBy.missing e p) (ReadBy.missing f s) = let z = missing_one p s in (cc (z.0, z.1), refl)
read_by_one (ReadBy.missing e p) (ReadBy.nobody f s) = absurd (there_or_missing s p)
read_by_one (ReadBy.nobody e p) (ReadBy.by f s) = absurd (some_none f e)
read_by_one (ReadBy.nobody e p) (ReadBy.missing f s) = absurd (there_or_missing p s)
read_by_one (ReadBy.nobody e p) (ReadBy.nobody f s) = (refl, refl)
