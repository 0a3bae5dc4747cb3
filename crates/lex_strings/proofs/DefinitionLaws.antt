-- From what is answered here to wat's definition of strings, in text that is UTF-8, and back. Assumes nothing.
use Prim.Native.Nat.{ℕ, suc, ◌+◌, ◌-◌}
use mathlib.Core.Path.{◌≡◌, refl, ap, ◌∙◌}
use mathlib.Core.List.{List, [], ◌∷◌, ◌++◌, append_assoc}
use native.Mathlib.Omega.{arith}
use lib.ListN.{length, take, drop, length-append}
use lib.Seq.{take-append-add, drop-append-add, drop-drop}
use Rattle.wat.specs.Bytes.{byte}
use Rattle.wat.specs.declared.Settings.{Settings}
use Rattle.wat.specs.Utf8.{WellFormed}
use Rattle.wat.specs.Strings.{Elems, Str}
use Rattle.wat.specs.RunModel.{StringRead, closed}
use Rattle.wat.proofs.Basics.{differ}
use Rattle.wat.proofs.StringRests.{Bodies, is_closed, is_failed, bodies, str_body}
use Rattle.wat_values.proofs.ValueLengths.{str_short}
use Rattle.lex_strings.specs.Parsing.{string, Ends, Closes, value_of}

-- ---- from the answers

-- t is what stands before a closing quote, for v, the quote, and what stands after it
record Quoted (σ : Settings) (t : List ℕ) (n : ℕ) (v : List ℕ) : Type 0 where
  pub inner : List ℕ
  pub rest : List ℕ
  pub split : t ≡ inner ++ (byte "\"" ∷ rest)
  pub are : Elems σ inner v
  pub long : n ≡ length inner + 1
  pub after : WellFormed rest

module _ (σ : Settings) (t : List ℕ) {n : ℕ} {v : List ℕ} (e : string σ t ≡ closed n v) (u : WellFormed t) where
  quoted : Quoted σ t n v
  quoted = go (bodies (suc (length t)) t (omega arith) u) e
    where
      go : {b : StringRead} → Bodies σ t b → b ≡ closed n v → Quoted σ t n v
      go (is_closed {s = i} {v = w} {n = m} r d p x l) q =
          let o : w ≡ v = cc in
          let k : n ≡ m = cc in
          record { inner = i; rest = r; split = d; are = rw o at p; long = k ∙ l; after = x }
      go (is_failed d p f a b) q = differ (cc)

  closed_str : Str σ (byte "\"" ∷ take n t) v
  closed_str =
      let q = quoted in
      let d : take n t ≡ q.inner ++ (byte "\"" ∷ []) =
      ap (take n) q.split ∙ ap (λ (m : ℕ). take m (q.inner ++ (byte "\"" ∷ q.rest))) q.long
      ∙ take-append-add q.inner (byte "\"" ∷ q.rest) 1 in
      rw d (Str.quoted q.are)

  closed_rest : WellFormed (drop n t)
  closed_rest =
      let q = quoted in
      let d : drop n t ≡ q.rest =
      ap (drop n) q.split ∙ ap (λ (m : ℕ). drop m (q.inner ++ (byte "\"" ∷ q.rest))) q.long
      ∙ drop-append-add q.inner (byte "\"" ∷ q.rest) 1 in
      rw d q.after

module _ {σ : Settings} {s : List ℕ} {at end : ℕ} (x : Ends σ s at end) (u : WellFormed (drop at s)) where
  -- a string, and UTF-8 after it
  pub ends_str : Str σ (byte "\"" ∷ take x.len (drop at s)) x.value
  ends_str = closed_str σ (drop at s) x.is u

  pub ends_rest : WellFormed (drop end s)
  ends_rest = rw (x.ends, ← (drop-drop x.len at s)) (closed_rest σ (drop at s) x.is u)

-- ---- from the definitions

pub str_string :
    {σ : Settings} {w v : List ℕ} (t u : List ℕ) (n : ℕ) → Str σ w v → byte "\"" ∷ t ≡ w ++ u → length w ≡ 1 + n
    → string σ t ≡ closed n v
str_string {σ} t u n (Str.quoted {s = i} {v = v} r) e l =
    let d : t ≡ i ++ (byte "\"" ∷ u) = cc (append_assoc i (byte "\"" ∷ []) u) in
    let k : n ≡ length i + 1 = omega (arith, length-append i (byte "\"" ∷ [])) in
    rw (d, k) (str_body u (suc (length (i ++ (byte "\"" ∷ u)))) r (omega (arith, length-append i (byte "\"" ∷ u))))

-- so such a string can be measured and copied, and what is copied is its value
pub str_whole :
    {σ : Settings} {w v : List ℕ} (t u : List ℕ) → Str σ w v → byte "\"" ∷ t ≡ w ++ u
    → Closes (string σ t) × (value_of (string σ t) ≡ v)
str_whole {σ} {w} {v} t u r e =
    let s = str_short r in
    let c : string σ t ≡ closed (length w - 1) v = str_string t u (length w - 1) r e (omega arith) in
    rw c (tt, refl)
