-- A walk begins at a character boundary, and can be cut behind each of its tokens. Assumes nothing.
use Prim.Native.Nat.{ℕ, ◌+◌, ◌<◌}
use mathlib.Core.Path.{◌≡◌, refl, sym, ap, ◌∙◌, subst}
use mathlib.Core.List.{List, [], ◌∷◌, ◌++◌}
use native.Mathlib.Omega.{arith}
use lib.ListN.{take, drop, take-append-drop}
use lib.Seq.{drop-drop}
use Rattle.wat.specs.declared.{TokenKind.TokenKind, Settings.Settings, Family.Family}
use Rattle.wat.specs.Answers as answer
use Rattle.wat.specs.Utf8.{WellFormed}
use Rattle.wat.specs.Lexing.{Lexed}
use Rattle.wat.specs.Calls.{Stands}
use Rattle.wat.specs.Division.{Piece, lengths, Divided, Walked}
use Rattle.wat.proofs.Runs.{idchar_ascii}
use Rattle.wat.proofs.Families.{Families, is_space, is_open, is_close, is_semi, is_single, is_char, is_quote, is_other, families}
use Rattle.wat.proofs.Unique.{token_longest, nil_token}
use Rattle.wat.proofs.Boundaries.{cut, token_formed, space_low, punctuation_low}
use Rattle.wat_laws.proofs.TokenShapes.{Told, start as told_start}
use Rattle.wat_laws.proofs.Divisions.{divided_drop, lengths_append}

-- ---- where a walk begins

-- a token begins with an ASCII byte
starts_low : {f : Family} (x : ℕ) (w : List ℕ) → Families x f → Told f w → x < 0x80
starts_low x w (is_space e) t = space_low x e
starts_low x w (is_open e) t = omega arith
starts_low x w (is_close e) t = omega arith
starts_low x w (is_semi e) t = omega arith
starts_low x w (is_single e n) t = punctuation_low x e
starts_low x w (is_char e) t = idchar_ascii x e
starts_low x w (is_quote e) t = omega arith
starts_low x w (is_other e) t = absurd t

token_starts : {σ : Settings} {k : TokenKind} {n : ℕ} (s : List ℕ) → Lexed σ s (answer.Token k n)
    → (x : ℕ) × (t : List ℕ) × (s ≡ x ∷ t) × (x < 0x80)
token_starts [] (Lexed.token l f) = absurd (nil_token l refl)
token_starts {n = n} (x ∷ t) (Lexed.token l f) =
    (x, t, refl, starts_low x (take n (x ∷ t)) (families x) (told_start x t _ n refl l.is))

pub walked_from : {σ : Settings} {text : List ℕ} {start at : ℕ} {ts : List Piece} → Walked σ text start at ts → Stands text start
walked_from {σ} {text} {start} {at} w = go w.divided refl w.place
  where
    go : {s rest : List ℕ} {ts : List Piece} → Divided σ s ts rest → s ≡ drop start text → at ≡ start + lengths ts
        → Stands text start
    go Divided.none q e = let same : at ≡ start = omega arith in subst (λ (i : ℕ). Stands text i) same w.stands
    go {s} (Divided.more l d) q e =
        let x = token_starts s l in
        let seam : text ≡ take start text ++ (x.0 ∷ x.1) =
        sym (take-append-drop start text) ∙ ap (λ (y : List ℕ). take start text ++ y) (sym q ∙ x.2) in
        let c = (cut w.stands.sound.formed (take start text) x.0 x.1 seam x.3).1 in
        record {
          sound = w.stands.sound;
          within = omega (arith, w.stands.within);
          between = rw (sym q ∙ x.2) c;
        }

-- ---- a walk cut in two

divided_cut : {σ : Settings} {s rest : List ℕ} (us vs : List Piece) → Divided σ s (us ++ vs) rest
    → (mid : List ℕ) × Divided σ s us mid × Divided σ mid vs rest
divided_cut {s = s} [] vs d = (s, Divided.none, d)
divided_cut (u ∷ us) vs (Divided.more l d) = let c = divided_cut us vs d in (c.0, Divided.more l c.1, c.2)

divided_formed : {σ : Settings} {s rest : List ℕ} {ts : List Piece} → WellFormed s → Divided σ s ts rest → WellFormed rest
divided_formed g Divided.none = g
divided_formed g (Divided.more l d) = divided_formed (token_formed g (token_longest l)).1 d

pub walked_cut : {σ : Settings} {text : List ℕ} {start at : ℕ} (us vs : List Piece) → Walked σ text start at (us ++ vs)
    → Walked σ text start (start + lengths us) us × Walked σ text (start + lengths us) at vs
walked_cut {σ} {text} {start} {at} us vs w =
    let s = walked_from w in
    let c = divided_cut us vs w.divided in
    let q : c.0 ≡ drop (start + lengths us) text = divided_drop c.1 ∙ drop-drop (lengths us) start text in
    let l = lengths_append us vs in
    let first : Divided σ (drop start text) us (drop (start + lengths us) text) =
    subst (λ (z : List ℕ). Divided σ (drop start text) us z) q c.1 in
    let second : Divided σ (drop (start + lengths us) text) vs (drop at text) =
    subst (λ (z : List ℕ). Divided σ z vs (drop at text)) q c.2 in
    let mid : Stands text (start + lengths us) =
    record {
      sound = s.sound;
      within = omega (arith, w.place, w.stands.within);
      between = divided_formed s.between first;
    } in (
      record { divided = first; place = refl; stands = mid },
      record { divided = second; place = omega (arith, w.place); stands = w.stands },
    )
