-- The records of a listing say its tokens: a number is found again from its bytes, each record says its token's kind,
-- place and length, and records determine the tokens. Assumes nothing.
use Prim.Native.Nat.{ℕ, zero, suc, ◌+◌, ◌*◌, ◌/◌, ◌^◌, ◌<◌}
use mathlib.Core.Path.{◌≡◌, refl, sym, ap, ◌∙◌, subst}
use mathlib.Core.List.{List, [], ◌∷◌, ◌++◌}
use native.Mathlib.Nat.{pow-suc}
use native.Mathlib.Omega.{arith}
use lib.ListN.{length, take, drop, get_or}
use lib.Seq.{drop-append-add}
use Rattle.wat.specs.declared.{Settings.Settings, Listed.Listed}
use Rattle.wat.specs.Cases.{kind_number}
use Rattle.wat.specs.Calls.{Text, Stands}
use Rattle.wat.specs.Division.{Piece, lengths, Walked, little, record_size, record_of, records, Listing}
use Rattle.wat_laws.specs.Records.{from_little, record_at, length_at, kind_at, offset_at, token_words}
use Rattle.wat.proofs.KindNumbers.{injective, kind_small}
use Rattle.wat_laws.proofs.OneCall.{stands_or_rejected}
use Rattle.wat_laws.proofs.Divisions.{divided_length}
use Rattle.wat.specs.Whole.{Whole}

-- ---- a number and its bytes

quotient_small : (n x : ℕ) → n < x * 256 → n / 256 < x
quotient_small n x h = omega arith

-- a number that so many bytes hold is found again from them
pub from_little_lem : (k n : ℕ) → n < 256 ^ k → from_little (little k n) ≡ n
from_little_lem zero n h = omega arith
from_little_lem (suc k) n h = omega (arith, from_little_lem k (n / 256) (quotient_small n (256 ^ k) (rw pow-suc at h)))

-- the example in specs/Records
example : token_words (1 ∷ 0 ∷ 0 ∷ 0 ∷ 4 ∷ 0 ∷ 2 ∷ 0 ∷ 0 ∷ 0 ∷ 8 ∷ 0 ∷ []) 1 ≡ 8 ∷ 1 ∷ 2 ∷ []
example = refl

-- ---- the first record, and those behind it

module _ (w : List ℕ) (t : Piece) (x : List ℕ) where
  first_length : t.len < 2 ^ 32 → length_at (record_of w t ++ x) 0 ≡ t.len
  first_length h = from_little_lem 4 t.len h

  first_kind : kind_at (record_of w t ++ x) 0 ≡ kind_number t.kind
  first_kind = from_little_lem 2 (kind_number t.kind) (omega (arith, kind_small t.kind))

  next_record : (i : ℕ) → record_at (record_of w t ++ x) (suc i) ≡ record_at x i
  next_record i =
      let six : record_size * suc i ≡ record_size + record_size * i = omega arith in
      ap (λ (j : ℕ). take record_size (drop j (record_of w t ++ x))) six
      ∙ ap (take record_size) (drop-append-add (record_of w t) x (record_size * i))

  next_length : (i : ℕ) → length_at (record_of w t ++ x) (suc i) ≡ length_at x i
  next_length i = ap (λ (l : List ℕ). from_little (take 4 l)) (next_record i)

  next_kind : (i : ℕ) → kind_at (record_of w t ++ x) (suc i) ≡ kind_at x i
  next_kind i = ap (λ (l : List ℕ). from_little (drop 4 l)) (next_record i)

  next_offset : t.len < 2 ^ 32 → (i : ℕ) → offset_at (record_of w t ++ x) (suc i) ≡ t.len + offset_at x i
  next_offset h zero = omega (arith, first_length h)
  next_offset h (suc i) = omega (arith, next_offset h i, next_length i)

-- ---- each record

-- the i-th record says the token `t`, whose length 32 bits hold, at this offset
pub record Said (l : List ℕ) (i offset : ℕ) (t : Piece) : Type 0 where
  pub fits : t.len < 2 ^ 32
  pub length_said : length_at l i ≡ t.len
  pub kind_said : kind_at l i ≡ kind_number t.kind
  pub offset_said : offset_at l i ≡ offset

pub words_said : {l : List ℕ} {i offset : ℕ} {t : Piece} → Said l i offset t
    → token_words l i ≡ kind_number t.kind ∷ offset ∷ t.len ∷ []
words_said d = let a = d.length_said in let b = d.kind_said in let c = d.offset_said in cc

records_said : (s : List ℕ) (us : List Piece) (t : Piece) (vs : List Piece) (rest : List ℕ) → lengths (us ++ (t ∷ vs)) < 2 ^ 32
    → Said (records s (us ++ (t ∷ vs)) ++ rest) (length us) (lengths us) t
records_said s [] t vs rest h =
    let w = take t.len s in
    let x = records (drop t.len s) vs ++ rest in
    let f : t.len < 2 ^ 32 = omega arith in
    record { fits = f; length_said = first_length w t x f; kind_said = first_kind w t x; offset_said = refl }
records_said s (u ∷ us) t vs rest h =
    let w = take u.len s in
    let x = records (drop u.len s) (us ++ (t ∷ vs)) ++ rest in
    let i = length us in
    let d = records_said (drop u.len s) us t vs rest (omega arith) in
    record {
      fits = d.fits;
      length_said = next_length w u x i ∙ d.length_said;
      kind_said = next_kind w u x i ∙ d.kind_said;
      offset_said = next_offset w u x (omega arith) i ∙ ap (λ (n : ℕ). u.len + n) d.offset_said;
    }

pub records_decode : {l : List ℕ} (s : List ℕ) (us : List Piece) (t : Piece) (vs : List Piece) (rest : List ℕ)
    → l ≡ records s (us ++ (t ∷ vs)) ++ rest
    → lengths (us ++ (t ∷ vs)) < 2 ^ 32 → Said l (length us) (lengths us) t
records_decode s us t vs rest e h = subst (λ (x : List ℕ). Said x (length us) (lengths us) t) (sym e) (records_said s us t vs rest h)

-- the i-th of the tokens `ts`, and that the i-th record says it, behind those before it
pub record SaidOf (l : List ℕ) (ts : List Piece) (i : ℕ) : Type 0 where
  pub before : List Piece
  pub token : Piece
  pub after : List Piece
  pub parted : ts ≡ before ++ (token ∷ after)
  pub counted : length before ≡ i
  pub said : Said l i (lengths before) token

parted_at : (ts : List Piece) (i : ℕ) → i < length ts
    → (us : List Piece) × (t : Piece) × (vs : List Piece) × (ts ≡ us ++ (t ∷ vs)) × (length us ≡ i)
parted_at [] i h = absurd (omega arith)
parted_at (t ∷ ts) zero h = ([], t, ts, refl, refl)
parted_at (t ∷ ts) (suc i) h =
    let p = parted_at ts i (omega arith) in
    (t ∷ p.0, p.1, p.2, ap (λ (x : List Piece). t ∷ x) p.3, ap suc p.4)

pub each_said : {l : List ℕ} (s : List ℕ) (ts : List Piece) (rest : List ℕ) → l ≡ records s ts ++ rest → lengths ts < 2 ^ 32
    → (i : ℕ) → i < length ts → SaidOf l ts i
each_said {l} s ts rest e h i b =
    let p = parted_at ts i b in
    let q = p.3 in
    let d = records_decode s p.0 p.1 p.2 rest (e ∙ ap (λ (x : List Piece). records s x ++ rest) q)
    (subst (λ (x : List Piece). lengths x < 2 ^ 32) q h) in
    record {
      before = p.0;
      token = p.1;
      after = p.2;
      parted = q;
      counted = p.4;
      said = subst (λ (j : ℕ). Said l j (lengths p.0) p.1) p.4 d;
    }

-- ---- the records of a listing

-- the tokens that a listing handed out, from `start` on, and that each record says its token, its offset counted from
-- `start`
pub record RecordsSay (σ : Settings) (text : List ℕ) (start : ℕ) (r : Listed) (l : List ℕ) : Type 0 where
  pub tokens : List Piece
  pub end : ℕ
  pub walked : Walked σ text start end tokens
  pub counted : r.count ≡ length tokens
  pub each : (i : ℕ) → i < r.count → SaidOf l tokens i

pub listed_decode : {σ : Settings} {text : List ℕ} {start budget : ℕ} {list l : List ℕ} {r : Listed}
    → Listing σ text start budget list r l → Stands text start → RecordsSay σ text start r l
listed_decode (Listing.rejected t) s = absurd (stands_or_rejected s t)
listed_decode {text = text} {start = start} {list = list} (Listing.lists {ts = ts} {at = at} s w f g h) v =
    let small : lengths ts < 2 ^ 32 = omega (arith, w.place, w.stands.within, s.sound.short) in
    record {
      tokens = ts;
      end = at;
      walked = w;
      counted = refl;
      each = λ i b. each_said (drop start text) ts (drop (record_size * length ts) list) refl small i b;
    }

-- a text that the listing carries from byte 0 to its end: the i-th record says the i-th token of its one division
pub whole_decode : {σ : Settings} {text list l : List ℕ} {r : Listed} → Text text → (x : Whole σ text list r l)
    → (i : ℕ) → i < r.count → SaidOf l x.tokens i
whole_decode {text = text} {list = list} t x i b =
    each_said text x.tokens (drop (record_size * length x.tokens) list) x.recorded
    (omega (arith, divided_length x.divided, t.short)) i (omega (arith, x.counted))

-- ---- records determine the tokens

-- what a record keeps of a token: its kind's number and its length
abbrev pub written : List Piece → List (ℕ × ℕ)
written [] = []
written (t ∷ ts) = (kind_number t.kind, t.len) ∷ written ts

-- tokens whose records are the same, in whatever texts, are as many, of the same lengths and kinds' numbers
pub records_written : (s s' : List ℕ) (ts us : List Piece) → lengths ts < 2 ^ 32 → lengths us < 2 ^ 32
    → records s ts ≡ records s' us → written ts ≡ written us
records_written s s' [] [] h k e = refl
records_written s s' [] (u ∷ us) h k e = absurd (omega (arith, ap length e))
records_written s s' (t ∷ ts) [] h k e = absurd (omega (arith, ap length e))
records_written s s' (t ∷ ts) (u ∷ us) h k e =
    let w = take t.len s in
    let v = take u.len s' in
    let x = records (drop t.len s) ts in
    let y = records (drop u.len s') us in
    let a : t.len ≡ u.len =
    sym (first_length w t x (omega arith)) ∙ ap (λ (l : List ℕ). length_at l 0) e ∙ first_length v u y (omega arith) in
    let b : kind_number t.kind ≡ kind_number u.kind =
    sym (first_kind w t x) ∙ ap (λ (l : List ℕ). kind_at l 0) e ∙ first_kind v u y in
    let i = records_written (drop t.len s) (drop u.len s') ts us (omega arith) (omega arith) (ap (drop record_size) e) in
    cc

written_one : (ts us : List Piece) → written ts ≡ written us → ts ≡ us
written_one [] [] e = refl
written_one [] (u ∷ us) e = absurd (omega (arith, ap length e))
written_one (t ∷ ts) [] e = absurd (omega (arith, ap length e))
written_one (t ∷ ts) (u ∷ us) e =
    let a : t.len ≡ u.len = ap (λ (l : List (ℕ × ℕ)). (get_or l 0 (0, 0)).1) e in
    let b : t.kind ≡ u.kind = injective t.kind u.kind (ap (λ (l : List (ℕ × ℕ)). (get_or l 0 (0, 0)).0) e) in
    let i = written_one ts us (ap (drop 1) e) in
    λ j. record { kind = b j; len = a j } ∷ i j

-- and so the same tokens
pub records_one : (s s' : List ℕ) (ts us : List Piece) → lengths ts < 2 ^ 32 → lengths us < 2 ^ 32
    → records s ts ≡ records s' us → ts ≡ us
records_one s s' ts us h k e = written_one ts us (records_written s s' ts us h k e)
