-- From the parts of a literal, and the places where they end, to its kind.
-- Assumes nothing.
use Prim.Native.Nat.{ℕ, ◌≤◌, ◌<◌}
use native.Mathlib.Omega.{arith}
use mathlib.Core.Path.{◌≡◌, refl, sym, ap, ◌∙◌}
use mathlib.Core.Logic.{◌⊎◌, inl, inr}
use mathlib.Core.Bool.{Bool, true, false, not, ◌&&◌, ◌||◌, and-false, and-true}
use mathlib.Core.List.{List, [], ◌∷◌}
use mathlib.Core.Option.{none, some}
use lib.Pointwise.{pointwise}
use lib.Dec.{eqb}
use lib.ListN.{length, get_or, take, drop}
use Rattle.wat.specs.declared.Sign.{Sign}
use Rattle.wat.specs.declared.Number.{Number}
use Rattle.wat.specs.declared.Number.TheVariants.{Integer, Inf, Nan, NanVal, Normal, Neither}
use Rattle.wat.specs.Bytes.{byte, between}
use Rattle.wat.specs.Numbers.{digit, negative, prefix, inf, nan, nan_colon, Literal, KindOf}
use Rattle.wat.specs.NumberModel.{Past, bad, past, run, strip, is, nothing_left}
use Rattle.wat.specs.NumberModel.{fraction, exponent, at_end, then, decide, finite, payload, unsigned, classify}
use Rattle.wat.proofs.Numbers.Digits.{apart}
use Rattle.wat.proofs.Numbers.Decides.{complete, sound}
use Rattle.lex_numbers.specs.Places.{begins_0x}

-- ---- a payload's digits, with nothing after them

module _ (sign : Sign) {m : Past} where
  pub payload_bad : m ≡ bad → Neither ≡ payload sign m
  unfolding payload at_end
  payload_bad e = rw e

  module _ {u : Bool} {s : List ℕ} (e : m ≡ past u s) where
    pub payload_here : {n : Bool} → n ≡ negative sign → s ≡ [] → NanVal n u ≡ payload sign m
    unfolding payload at_end
    payload_here p q = rw (p, e, q)

    pub payload_more : {x : ℕ} {xs : List ℕ} → s ≡ x ∷ xs → Neither ≡ payload sign m
    unfolding payload at_end
    payload_more q = rw (e, q)

-- ---- what follows a float's digits

abbrev float : Bool → Bool → List ℕ → Number
float hex seen s = at_end (then (then (past seen s) (fraction hex)) (exponent hex)) (Normal hex)

module _ (hex seen : Bool) (s : List ℕ) where
  pub fraction_bad : fraction hex s ≡ bad → Neither ≡ float hex seen s
  unfolding at_end then
  fraction_bad f = rw f

  module _ {g : Bool} {t : List ℕ} (f : fraction hex s ≡ past g t) where
    pub exponent_bad : exponent hex t ≡ bad → Neither ≡ float hex seen s
    unfolding at_end then
    exponent_bad e = rw (f, e)

    module _ {h : Bool} {v : List ℕ} (e : exponent hex t ≡ past h v) where
      pub normal_here : v ≡ [] → Normal hex ((seen || g) || h) ≡ float hex seen s
      unfolding at_end then
      normal_here z = rw (f, e, z)

      pub normal_more : {x : ℕ} {xs : List ℕ} → v ≡ x ∷ xs → Neither ≡ float hex seen s
      unfolding at_end then
      normal_more z = rw (f, e, z)

-- ---- digits, and what follows them

module _ (sign : Sign) (hex : Bool) where
  pub decide_bad : {m : Past} → m ≡ bad → Neither ≡ decide sign hex m
  unfolding decide
  decide_bad e = rw e

  module _ {m : Past} {u : Bool} {s : List ℕ} (e : m ≡ past u s) where
    pub decide_integer : s ≡ [] → Integer sign hex u ≡ decide sign hex m
    unfolding decide
    decide_integer z = rw (e, z)

    pub decide_float : {x : ℕ} {xs : List ℕ} → s ≡ x ∷ xs → float hex u s ≡ decide sign hex m
    unfolding decide
    decide_float z = rw (e, z)

-- ---- a word that begins with another, or is it, in std's words

other_first : (p : ℕ) (ps : List ℕ) (x : ℕ) (xs : List ℕ) → eqb x p ≡ false → strip (p ∷ ps) (x ∷ xs) ≡ none
unfolding strip
other_first p ps x xs e = rw (e, strip)

same_first : (p : ℕ) (ps : List ℕ) (x : ℕ) (xs : List ℕ) → eqb x p ≡ true → strip (p ∷ ps) (x ∷ xs) ≡ strip ps xs
unfolding strip
same_first p ps x xs e = rw (e, strip)

pub strip_some : (p s : List ℕ) {t : List ℕ} → pointwise eqb (take (length p) s) p ≡ true → t ≡ drop (length p) s
    → strip p s ≡ some t
unfolding strip
strip_some [] s h q = ap some (sym q)
strip_some (a ∷ p) [] h q = absurd cc
strip_some (a ∷ p) (x ∷ s) {t} h q = go (eqb x a) refl h (λ g. strip_some p s g q)
  where
    go : (b : Bool) → eqb x a ≡ b → b && pointwise eqb (take (length p) s) p ≡ true
        → (pointwise eqb (take (length p) s) p ≡ true → strip p s ≡ some t) → strip (a ∷ p) (x ∷ s) ≡ some t
    go true e g k = same_first a p x s e ∙ k g
    go false e g k = absurd cc

pub strip_none : (p s : List ℕ) → pointwise eqb (take (length p) s) p ≡ false → strip p s ≡ none
unfolding strip
strip_none [] s h = absurd cc
strip_none (a ∷ p) [] h = refl
strip_none (a ∷ p) (x ∷ s) h = go (eqb x a) refl h (λ g. strip_none p s g)
  where
    go : (b : Bool) → eqb x a ≡ b → b && pointwise eqb (take (length p) s) p ≡ false
        → (pointwise eqb (take (length p) s) p ≡ false → strip p s ≡ none) → strip (a ∷ p) (x ∷ s) ≡ none
    go true e g k = same_first a p x s e ∙ k g
    go false e g k = other_first a p x s e

pub is_word : (p s : List ℕ) → pointwise eqb s p ≡ is p s
unfolding is nothing_left strip
is_word [] [] = refl
is_word [] (x ∷ s) = refl
is_word (a ∷ p) [] = refl
is_word (a ∷ p) (x ∷ s) = go (eqb x a) refl (is_word p s)
  where
    go : (b : Bool) → eqb x a ≡ b → pointwise eqb s p ≡ is p s → b && pointwise eqb s p ≡ is (a ∷ p) (x ∷ s)
    go true e k = rw (same_first a p x s e) k
    go false e k = rw (other_first a p x s e)

-- what `==` says of a word
pub told : (p s : List ℕ) {q : List ℕ} {r b : Bool} → q ≡ p → r ≡ pointwise eqb s q → r ≡ b → is p s ≡ b
told p s e h k = sym (is_word p s) ∙ (ap (pointwise eqb s) (sym e) ∙ (sym h ∙ k))

-- ---- a number, by whether 0x is first

pub prefix_short : (s : List ℕ) → length s < 2 → false ≡ begins_0x s
prefix_short [] h = refl
prefix_short (x ∷ []) h = rw and-false
prefix_short (x ∷ y ∷ s) h = absurd (omega arith)

pub prefix_long : (s : List ℕ) → 2 ≤ length s
    → eqb (get_or s 0 0) (byte "0") && eqb (get_or s 1 0) (byte "x") ≡ begins_0x s
prefix_long [] h = absurd (omega arith)
prefix_long (x ∷ []) h = absurd (omega arith)
prefix_long (x ∷ y ∷ s) h = rw and-true

pub prefix_fits : (s : List ℕ) (hex : Bool) → hex ≡ begins_0x s → length (prefix hex) ≤ length s
prefix_fits s false e = omega arith
prefix_fits [] true e = absurd cc
prefix_fits (x ∷ []) true e = let z = rw and-false at e in absurd cc
prefix_fits (x ∷ y ∷ s) true e = omega arith

pub finite_told : (sign : Sign) (s : List ℕ) (hex : Bool) → hex ≡ begins_0x s
    → decide sign hex (run hex true (drop (length (prefix hex)) s)) ≡ finite sign s
unfolding finite
finite_told sign s true e = rw (strip_some (prefix true) s (sym e) refl, finite)
finite_told sign s false e = rw (strip_none (prefix true) s (sym e), finite)

pub ruleset prefixes = (prefix_short, prefix_long)

-- ---- the bytes after a sign

pub nothing_after_sign : (sign : Sign) → Neither ≡ unsigned sign []
unfolding unsigned is nothing_left strip finite run decide
nothing_after_sign sign = refl

other_word : (p : ℕ) (ps : List ℕ) (x : ℕ) (xs : List ℕ) → eqb x p ≡ false → is (p ∷ ps) (x ∷ xs) ≡ false
unfolding is nothing_left
other_word p ps x xs e = rw (other_first p ps x xs e)

-- what is no decimal digit is no 0
no_zero : (x : ℕ) → digit false x ≡ false → eqb x (byte "0") ≡ false
unfolding digit between
no_zero x p = apart (λ (y : ℕ). not (digit false y)) x (byte "0") (ap not p) refl

module _ (sign : Sign) (s : List ℕ) where
  -- a digit is first
  pub digit_first : (x : ℕ) {xs : List ℕ} → s ≡ x ∷ xs → digit false x ≡ true → finite sign s ≡ unsigned sign s
  unfolding unsigned digit between
  digit_first x {xs} z p =
      let i = apart (digit false) x (byte "i") p refl in
      let n = apart (digit false) x (byte "n") p refl in
      rw z (rw (other_word (byte "i") _ x xs i, other_word (byte "n") _ x xs n, other_first (byte "n") _ x xs n, unsigned))

  pub is_inf : {n : Bool} → n ≡ negative sign → is inf s ≡ true → Inf n ≡ unsigned sign s
  unfolding unsigned
  is_inf p e = rw (p, e, unsigned)

  module _ (i : is inf s ≡ false) where
    pub is_nan : {n : Bool} → n ≡ negative sign → is nan s ≡ true → Nan n ≡ unsigned sign s
    unfolding unsigned
    is_nan p e = rw (p, i, e, unsigned)

    module _ (a : is nan s ≡ false) where
      pub is_payload : {t : List ℕ} → strip nan_colon s ≡ some t → payload sign (run true true t) ≡ unsigned sign s
      unfolding unsigned
      is_payload e = rw (i, a, e, unsigned)

      -- none of the words is, and no digit is first
      pub is_none : (x : ℕ) {xs : List ℕ} → s ≡ x ∷ xs → strip nan_colon s ≡ none → digit false x ≡ false
          → Neither ≡ unsigned sign s
      unfolding unsigned finite run decide
      is_none x {xs} z e p = rw (i, a, e, unsigned) (rw z (rw (other_first (byte "0") _ x xs (no_zero x p), finite) (rw (p, run))))

-- ---- the kind of the bytes is the model's, and there is no other
pub classified : {s : List ℕ} {k : Number} → KindOf s k → k ≡ classify s
classified {s} {k} h = go (sound s) h.kind
  where
    go : (classify s ≡ Neither) ⊎ Literal s (classify s) → (k ≡ Neither) ⊎ Literal s k → k ≡ classify s
    go (inr l) q = sym (h.only (classify s) l)
    go (inl e) (inl q) = q ∙ sym e
    go (inl e) (inr l) = sym (complete l)

pub ruleset floats = (fraction_bad, exponent_bad, normal_here, normal_more)

pub ruleset decisions = (decide_bad, decide_integer, decide_float)

pub ruleset payloads = (payload_bad, payload_here, payload_more)

pub ruleset kinds = (nothing_after_sign, digit_first, is_inf, is_nan, is_payload, is_none)
