-- What passes under some settings passes under looser ones: numbers, elements, strings and runs, with the same values; and
-- where only strict digits differ, a string that is refused by another number than 25 is refused alike. Assumes nothing.
use Prim.Native.Nat.{ℕ, ◌+◌}
use mathlib.Core.Path.{◌≡◌, refl, ap}
use mathlib.Core.Bool.{Bool, true, false}
use mathlib.Core.List.{List}
use Rattle.wat.specs.declared.{Settings.Settings, LexError.LexError, Fault.Fault}
use Rattle.wat.specs.declared.LexError.TheVariants.{DoubleUnderscore}
use Rattle.wat.specs.Settings.{lenient}
use Rattle.wat.specs.Strings.{HexNum, Elem, Elems, Str}
use Rattle.wat.specs.StringFaults.{Awaits, Bad, BadStr}
use Rattle.wat.specs.Tokens.{Run}
use Rattle.wat.proofs.Basics.{differ, never}
use Rattle.wat_laws.specs.Looser.{Looser, unstrict}

-- the lenient settings refuse nothing that others let pass
pub looser_lenient : (σ : Settings) → Looser σ lenient
looser_lenient σ = record { confusing = λ e. refl; digits = λ e. differ (cc) }

pub looser_unstrict : (σ : Settings) → Looser σ (unstrict σ)
looser_unstrict σ = record { confusing = λ e. e; digits = λ e. differ (cc) }

module _ {σ τ : Settings} (l : Looser σ τ) where
  -- what refuses confusing characters did so before
  pub looser_off : τ.allow_confusing ≡ false → σ.allow_confusing ≡ false
  looser_off e = go σ.allow_confusing refl
    where
      go : (b : Bool) → σ.allow_confusing ≡ b → σ.allow_confusing ≡ false
      go true q = absurd (never (l.confusing q) e)
      go false q = q

  number_looser : {ds : List ℕ} {n : ℕ} → HexNum σ ds n → HexNum τ ds n
  number_looser (HexNum.one h) = HexNum.one h
  number_looser (HexNum.more k g r h) = HexNum.more k (λ e. g (l.digits e)) (number_looser r) h

  elem_looser : {s v : List ℕ} → Elem σ s v → Elem τ s v
  elem_looser (Elem.raw ch p q r h) = Elem.raw ch p q r (λ e. h (looser_off e))
  elem_looser (Elem.letter m) = Elem.letter m
  elem_looser (Elem.pair p q) = Elem.pair p q
  elem_looser (Elem.unicode r ch) = Elem.unicode (number_looser r) ch

  elems_looser : {s v : List ℕ} → Elems σ s v → Elems τ s v
  elems_looser Elems.none = Elems.none
  elems_looser (Elems.next p r) = Elems.next (elem_looser p) (elems_looser r)

  pub str_looser : {s v : List ℕ} → Str σ s v → Str τ s v
  str_looser (Str.quoted q) = Str.quoted (elems_looser q)

  pub run_looser : {w : List ℕ} → Run σ w → Run τ w
  run_looser Run.none = Run.none
  run_looser (Run.char e r) = Run.char e (run_looser r)
  run_looser (Run.string q r) = Run.string (str_looser q) (run_looser r)

  awaits_looser : {p : List ℕ} {test : ℕ → Bool} {error : ℕ → LexError} → Awaits σ p test error → Awaits τ p test error
  awaits_looser Awaits.element = Awaits.element
  awaits_looser Awaits.escape = Awaits.escape
  awaits_looser (Awaits.second h) = Awaits.second h
  awaits_looser Awaits.brace = Awaits.brace
  awaits_looser Awaits.first = Awaits.first
  awaits_looser (Awaits.close r e) = Awaits.close (number_looser r) e

-- a string under any settings is one under the lenient ones, and so is a run
pub str_lenient : {σ : Settings} {s v : List ℕ} → Str σ s v → Str lenient s v
str_lenient {σ} q = str_looser (looser_lenient σ) q

pub run_lenient : {σ : Settings} {w : List ℕ} → Run σ w → Run lenient w
run_lenient {σ} r = run_looser (looser_lenient σ) r

module _ (σ : Settings) where
  bad_unstrict : {p c u : List ℕ} {e : LexError} → Bad σ p c u e → (e ≡ DoubleUnderscore → ⊥) → Bad (unstrict σ) p c u e
  bad_unstrict (Bad.other a ch t) n = Bad.other (awaits_looser (looser_unstrict σ) a) ch t
  bad_unstrict (Bad.end a) n = Bad.end (awaits_looser (looser_unstrict σ) a)
  bad_unstrict (Bad.big k g r f h o) n =
      Bad.big k (λ e. differ (cc)) (number_looser (looser_unstrict σ) r) f h o
  bad_unstrict (Bad.lone k g r f e) n = Bad.lone k (λ e. differ (cc)) (number_looser (looser_unstrict σ) r) f e
  bad_unstrict (Bad.double e r f) n = absurd (n refl)
  bad_unstrict (Bad.value r f s e) n = Bad.value (number_looser (looser_unstrict σ) r) f s e
  bad_unstrict (Bad.hidden ch c o) n = Bad.hidden ch c o

  pub string_unstrict : {t : List ℕ} {f : Fault} → BadStr σ t f → (f.error ≡ DoubleUnderscore → ⊥)
      → BadStr (unstrict σ) t f
  string_unstrict (BadStr.quoted q x) n = BadStr.quoted (elems_looser (looser_unstrict σ) q) (bad_unstrict x n)

-- an answer that is 25 at no place is not made of a fault by 25
pub not_double : {A : Type 0} (refused : LexError → ℕ → A) (f : Fault) (at : ℕ)
    → ((p : ℕ) → refused f.error (at + f.place) ≡ refused DoubleUnderscore p → ⊥)
    → f.error ≡ DoubleUnderscore → ⊥
not_double refused f at n e = n (at + f.place) (ap (λ (x : LexError). refused x (at + f.place)) e)
