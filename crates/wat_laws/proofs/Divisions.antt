-- Divisions: tokens lie end to end over every byte, none is empty, there is one division, and under looser settings it is
-- the same. Assumes nothing.
use Prim.Native.Nat.{ℕ, zero, suc, ◌+◌, ◌≤◌, ◌<◌}
use mathlib.Core.Path.{◌≡◌, refl, sym, ap, ◌∙◌}
use mathlib.Core.List.{List, [], ◌∷◌, ◌++◌, append-nil, append_assoc}
use native.Mathlib.Omega.{arith}
use lib.ListN.{length, take, drop, length-drop, take-append-drop}
use lib.Seq.{drop-drop}
use Rattle.wat.specs.declared.{TokenKind.TokenKind, Fault.Fault}
use Rattle.wat.specs.Answers as answer
use Rattle.wat.specs.declared.Settings.{Settings}
use Rattle.wat.specs.Lexing.{Lexed}
use Rattle.wat.specs.Division.{Piece, lengths, Divided}
use Rattle.wat.specs.Whole.{joined, Some, Longests, Division}
use Rattle.wat.proofs.Basics.{differ}
use Rattle.wat.proofs.Unique.{tok_some, token_longest, token_same, lexed_one}
use Rattle.wat.proofs.Boundaries.{token_formed}
use Rattle.wat.specs.Utf8.{WellFormed}
use Rattle.wat_laws.specs.Looser.{Looser}
use Rattle.wat_laws.proofs.Answers.{lexed_looser}

-- ---- a token is in the text, and not empty

pub token_size : {σ : Settings} {s : List ℕ} {k : TokenKind} {n : ℕ} → Lexed σ s (answer.Token k n) → (0 < n) × (n ≤ length s)
token_size {s = s} {n = n} (Lexed.token l f) = (some n (λ e. tok_some l.is (ap (λ (i : ℕ). take i s) e)), l.fits)
  where
    some : (n : ℕ) → (n ≡ 0 → ⊥) → 0 < n
    some zero h = absurd (h refl)
    some (suc n) h = omega arith

-- tokens lie end to end
pub divided_drop : {σ : Settings} {s rest : List ℕ} {ts : List Piece} → Divided σ s ts rest → rest ≡ drop (lengths ts) s
divided_drop Divided.none = refl
divided_drop {s = s} (Divided.more {t = t} {ts = ts} l r) = divided_drop r ∙ drop-drop (lengths ts) t.len s

pub divided_length : {σ : Settings} {s rest : List ℕ} {ts : List Piece} → Divided σ s ts rest
    → lengths ts + length rest ≡ length s
divided_length Divided.none = omega arith
divided_length {s = s} (Divided.more {t = t} l r) = let i = divided_length r in let h = token_size l in
    omega (arith, length-drop t.len s)

-- none is empty
pub divided_some : {σ : Settings} {s rest : List ℕ} {ts : List Piece} → Divided σ s ts rest → Some ts
divided_some Divided.none = tt
divided_some (Divided.more l r) = ((token_size l).0, divided_some r)

-- there are no more tokens than bytes in them
pub divided_count : {σ : Settings} {s rest : List ℕ} {ts : List Piece} → Divided σ s ts rest → length ts ≤ lengths ts
divided_count Divided.none = omega arith
divided_count (Divided.more l r) = let i = divided_count r in omega (arith, (token_size l).0)

-- ---- the same tokens

-- the token with which a text begins
token_one : {σ : Settings} {s : List ℕ} (t t' : Piece) → Lexed σ s (answer.Token t.kind t.len)
    → Lexed σ s (answer.Token t'.kind t'.len) → t ≡ t'
token_one t t' l l' = let q = token_same (lexed_one l l') in same q.0 q.1
  where
    same : t.kind ≡ t'.kind → t.len ≡ t'.len → t ≡ t'
    same p q = λ i. record { kind = p i; len = q i }

-- as many tokens are the same tokens
pub divided_one : {σ : Settings} {s rest rest' : List ℕ} {ts ts' : List Piece} → Divided σ s ts rest
    → Divided σ s ts' rest'
    → length ts ≡ length ts' → (ts ≡ ts') × (rest ≡ rest')
divided_one Divided.none Divided.none e = (refl, refl)
divided_one Divided.none (Divided.more l r) e = absurd (omega arith)
divided_one (Divided.more l r) Divided.none e = absurd (omega arith)
divided_one (Divided.more {t = t} {ts = ts} l r) (Divided.more {t = t'} {ts = ts'} l' r') e =
    let q = token_one t t' l l' in
    let i = divided_one r (rw (sym (ap (λ (u : Piece). u.len) q)) at r') (omega arith) in
    (cc (q, i.0), i.1)

-- no token follows: at the end, and at a fault
abbrev pub Ended : Settings → List ℕ → Type 0
Ended σ rest = (t : Piece) → Lexed σ rest (answer.Token t.kind t.len) → ⊥

pub ended_nil : {σ : Settings} → Ended σ []
ended_nil t l = let h = token_size l in omega arith

pub ended_fault : {σ : Settings} {rest : List ℕ} {f : Fault} → Lexed σ rest (answer.Fault f) → Ended σ rest
ended_fault g t l = let q = lexed_one l g in differ (cc)

-- two divisions that no token follows are the same
pub ended_one : {σ : Settings} {s rest rest' : List ℕ} {ts ts' : List Piece} → Divided σ s ts rest → Ended σ rest
    → Divided σ s ts' rest' → Ended σ rest' → (ts ≡ ts') × (rest ≡ rest')
ended_one Divided.none p Divided.none q = (refl, refl)
ended_one Divided.none p (Divided.more {t = t} l r) q = absurd (p t l)
ended_one (Divided.more {t = t} l r) p Divided.none q = absurd (q t l)
ended_one (Divided.more {t = t} {ts = ts} l r) p (Divided.more {t = t'} {ts = ts'} l' r') q =
    let z = token_one t t' l l' in
    let i = ended_one r p (rw (sym (ap (λ (u : Piece). u.len) z)) at r') q in
    (cc (z, i.0), i.1)

-- ---- one division

pub divided_joined : {σ : Settings} {s rest : List ℕ} {ts : List Piece} → Divided σ s ts rest → joined s ts ++ rest ≡ s
divided_joined Divided.none = refl
divided_joined {s = s} {rest = rest} (Divided.more {t = t} {ts = ts} l r) =
    append_assoc (take t.len s) (joined (drop t.len s) ts) rest
    ∙ ap (λ (x : List ℕ). take t.len s ++ x) (divided_joined r) ∙ take-append-drop t.len s

divided_longest : {σ : Settings} {s rest : List ℕ} {ts : List Piece} → Divided σ s ts rest → Longests s ts
divided_longest Divided.none = tt
divided_longest (Divided.more l r) = (token_longest l, divided_longest r)

pub one_division : {σ : Settings} {s : List ℕ} {ts : List Piece} → Divided σ s ts [] → Division σ s ts
one_division {s = s} {ts = ts} d =
    record {
      every_byte = sym (append-nil (joined s ts)) ∙ divided_joined d;
      none_empty = divided_some d;
      longest = divided_longest d;
      only = λ us e. (ended_one e ended_nil d ended_nil).0;
    }

-- ---- divisions one behind the other

pub divided_append : {σ : Settings} {s mid rest : List ℕ} {us vs : List Piece} → Divided σ s us mid → Divided σ mid vs rest
    → Divided σ s (us ++ vs) rest
divided_append Divided.none e = e
divided_append (Divided.more l r) e = Divided.more l (divided_append r e)

-- where fewer tokens were taken, one more follows
pub divided_next : {σ : Settings} {s rest rest' : List ℕ} {ts ts' : List Piece} → Divided σ s ts rest
    → Divided σ s ts' rest' → length ts < length ts'
    → (t : Piece) × Lexed σ rest (answer.Token t.kind t.len)
divided_next Divided.none Divided.none h = absurd (omega arith)
divided_next Divided.none (Divided.more {t = t} l r) h = (t, l)
divided_next (Divided.more l r) Divided.none h = absurd (omega arith)
divided_next (Divided.more {t = t} l r) (Divided.more {t = t'} l' r') h =
    let n : t.len ≡ t'.len = (token_same (lexed_one l l')).1 in
    divided_next r (rw (sym n) at r') (omega arith)

pub lengths_append : (us vs : List Piece) → lengths (us ++ vs) ≡ lengths us + lengths vs
lengths_append [] vs = omega arith
lengths_append (u ∷ us) vs = omega (arith, lengths_append us vs)

-- ---- under looser settings

pub divided_looser : {σ τ : Settings} {s rest : List ℕ} {ts : List Piece} → Looser σ τ → WellFormed s → Divided σ s ts rest
    → Divided τ s ts rest
divided_looser o g Divided.none = Divided.none
divided_looser o g (Divided.more l d) =
    Divided.more (lexed_looser o g l) (divided_looser o (token_formed g (token_longest l)).1 d)
