-- A walk over the tokens of a text: where it begins, one token more, two walks one behind the other, its end; and the
-- records of its tokens. Assumes nothing.
use Prim.Native.Nat.{ℕ, ◌+◌, ◌*◌, ◌≤◌}
use mathlib.Core.Path.{◌≡◌, refl, sym, ap, ◌∙◌, subst}
use mathlib.Core.List.{List, [], ◌∷◌, ◌++◌, append-nil, append_assoc}
use native.Mathlib.Omega.{arith}
use lib.ListN.{length, take, drop, length-drop, drop_of_length-le}
use lib.Seq.{drop-drop}
use Rattle.wat.specs.declared.{TokenKind.TokenKind, Settings.Settings}
use Rattle.wat.specs.Answers as answer
use Rattle.wat.specs.Utf8.{WellFormed}
use Rattle.wat.specs.Lexing.{Lexed}
use Rattle.wat.specs.Calls.{Stands}
use Rattle.wat.specs.Division.{Piece, lengths, Divided, Walked, record_size, record_of, records}
use Rattle.wat.proofs.Boundaries.{token_formed}
use Rattle.wat_laws.specs.Looser.{Looser}
use Rattle.wat_laws.proofs.Divisions.{token_size, divided_append, lengths_append, divided_looser}

-- ---- walks

module _ (σ : Settings) (text : List ℕ) where
  pub walked_start : {start : ℕ} → Stands text start → Walked σ text start start []
  walked_start s = record { divided = Divided.none; place = omega arith; stands = s }

  -- one token more: behind it the text can be read on
  pub stands_on : {at : ℕ} {k : TokenKind} {n : ℕ} → Stands text at → Lexed σ (drop at text) (answer.Token k n)
      → Stands text (at + n)
  stands_on {at} {k} {n} s l =
      let z = token_size l in
      record {
        sound = s.sound;
        within = omega (arith, z.1, length-drop at text, s.within);
        between =
            rw (drop-drop n at text) at (formed l);
      }
    where
      formed : Lexed σ (drop at text) (answer.Token k n) → WellFormed (drop n (drop at text))
      formed (Lexed.token x f) = (token_formed s.between x).1

  pub walked_one : {at : ℕ} {k : TokenKind} {n : ℕ} → Stands text at → Lexed σ (drop at text) (answer.Token k n)
      → Walked σ text at (at + n) (record { kind = k; len = n } ∷ [])
  walked_one {at} {k} {n} s l =
      record {
        divided = Divided.more l (subst (λ (z : List ℕ). Divided σ (drop n (drop at text)) [] z) (drop-drop n at text) Divided.none);
        place = omega arith;
        stands = stands_on s l;
      }

  -- two walks, the second from where the first ended
  pub walked_then : {start mid at : ℕ} {us vs : List Piece} → Walked σ text start mid us → Walked σ text mid at vs
      → Walked σ text start at (us ++ vs)
  walked_then {us = us} {vs = vs} p q =
      record {
        divided = divided_append p.divided q.divided;
        place = omega (arith, p.place, q.place, lengths_append us vs);
        stands = q.stands;
      }

  pub walked_more : {start at : ℕ} {ts : List Piece} {k : TokenKind} {n : ℕ} → Walked σ text start at ts
      → Lexed σ (drop at text) (answer.Token k n)
      → Walked σ text start (at + n) (ts ++ (record { kind = k; len = n } ∷ []))
  walked_more w l = walked_then w (walked_one w.stands l)

  -- a walk to the end divides all that is left
  pub walked_end : {start at : ℕ} {ts : List Piece} → Walked σ text start at ts → length text ≤ at
      → Divided σ (drop start text) ts []
  walked_end {start} {at} {ts} w h = subst (λ (z : List ℕ). Divided σ (drop start text) ts z) (drop_of_length-le text h) w.divided

-- under looser settings the same tokens are walked over
pub walked_looser : {σ τ : Settings} {text : List ℕ} {start at : ℕ} {ts : List Piece} → Looser σ τ
    → WellFormed (drop start text)
    → Walked σ text start at ts → Walked τ text start at ts
walked_looser o g w = record { divided = divided_looser o g w.divided; place = w.place; stands = w.stands }

-- ---- records

pub records_length : (s : List ℕ) (ts : List Piece) → length (records s ts) ≡ record_size * length ts
records_length s [] = refl
records_length s (t ∷ ts) = omega (arith, records_length (drop t.len s) ts)

pub records_append : (s : List ℕ) (us vs : List Piece) → records s (us ++ vs) ≡ records s us ++ records (drop (lengths us) s) vs
records_append s [] vs = refl
records_append s (u ∷ us) vs =
    let d = drop u.len s in
    let w = take u.len s in
    ap (λ (l : List ℕ). record_of w u ++ l) (records_append d us vs)
    ∙ sym (append_assoc (record_of w u) (records d us) (records (drop (lengths us) d) vs))
    ∙ ap (λ (l : List ℕ). (record_of w u ++ records d us) ++ records l vs) (drop-drop (lengths us) u.len s)

-- the record of one token more
pub records_more : (text : List ℕ) (start at : ℕ) (ts : List Piece) (t : Piece) → at ≡ start + lengths ts
    → records (drop start text) (ts ++ (t ∷ [])) ≡ records (drop start text) ts ++ record_of (take t.len (drop at text)) t
records_more text start at ts t e =
    records_append (drop start text) ts (t ∷ [])
    ∙ ap (λ (l : List ℕ). records (drop start text) ts ++ l)
    (append-nil (record_of (take t.len (drop (lengths ts) (drop start text))) t)
    ∙ ap (λ (l : List ℕ). record_of (take t.len l) t) (drop-drop (lengths ts) start text ∙ ap (λ (i : ℕ). drop i text) (sym e)))
