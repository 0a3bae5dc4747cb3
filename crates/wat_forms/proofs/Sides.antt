-- Tokens passed one by one, with a count of the forms that are open and of the levels that are left: what that says of
-- forms, of forms that are begun, and that forms are balanced. Assumes nothing.
use Prim.Native.Nat.{ℕ, zero, suc}
use mathlib.Core.Path.{◌≡◌, refl, ap, ◌∙◌}
use mathlib.Core.List.{List, [], ◌∷◌, ◌++◌, append_assoc}
use Rattle.wat.specs.declared.TokenKind.{TokenKind}
use Rattle.wat.specs.declared.TokenKind.TheVariants as kind
use Rattle.wat.specs.Division.{Piece}
use Rattle.wat_forms.specs.Forms.{Opens, Closes, opens, closes, Forms, Form, Inside, Begun}
use Rattle.wat_forms.specs.Balance.{Side, opening, closing, neither, side}

-- ---- which side a token is

pub opens_side : {t : Piece} → Opens t → side t.kind ≡ opening
opens_side opens = refl

pub closes_side : {t : Piece} → Closes t → side t.kind ≡ closing
closes_side closes = refl

pub other_side : (t : Piece) → (Opens t → ⊥) → (Closes t → ⊥) → side t.kind ≡ neither
other_side t o c = go t.kind t.len o c
  where
    go : (k : TokenKind) (n : ℕ) → (Opens (record { kind = k; len = n }) → ⊥) → (Closes (record { kind = k; len = n }) → ⊥)
        → side k ≡ neither
    go kind.LineComment n o c = refl
    go kind.BlockComment n o c = refl
    go kind.Whitespace n o c = refl
    go kind.LParen n o c = absurd (o opens)
    go kind.RParen n o c = absurd (c closes)
    go kind.String n o c = refl
    go kind.Id n o c = refl
    go kind.Keyword n o c = refl
    go kind.Annotation n o c = refl
    go kind.Reserved n o c = refl
    go (kind.Integer i) n o c = refl
    go (kind.Float f) n o c = refl

-- ---- tokens passed one by one, in a form

-- the form is closed, and these tokens follow; an opening comes for which no level is left; or all tokens are passed, and
-- so many levels are left
pub data Ran : Type 0 where
  closed : List Piece → Ran
  stuck : Ran
  still : ℕ → Ran

abbrev step : Side → ℕ → ℕ → (ℕ → ℕ → Ran) → List Piece → Ran
step neither o l go ts = go o l
step opening o zero go ts = stuck
step opening o (suc l) go ts = go (suc o) l
step closing zero l go ts = closed ts
step closing (suc o) l go ts = go o (suc l)

-- o forms are open in the form, and l levels are left
abbrev pub run : List Piece → ℕ → ℕ → Ran
run [] o l = still l
run (t ∷ ts) o l = step (side t.kind) o l (run ts) ts

forms_run : {d : ℕ} {ts : List Piece} → Forms d ts → (o : ℕ) (us : List Piece) → run (ts ++ us) o d ≡ run us o d
forms_run Forms.none o us = refl
forms_run {d} (Forms.other {t = t} {ts = ts} a b f) o us =
    ap (λ (s : Side). step s o d (run (ts ++ us)) (ts ++ us)) (other_side t a b) ∙ forms_run f o us
forms_run (Forms.form {d = d} {inner = inner} {ts = ts} opens f closes g) o us =
    ap (λ (l : List Piece). run l (suc o) d) (append_assoc inner _ us)
    ∙ forms_run f (suc o) _ ∙ forms_run g o us

inside_run : {d e : ℕ} {ts : List Piece} → Inside d e ts → (o : ℕ)
    → (p : ℕ) × ((us : List Piece) → run (ts ++ us) o d ≡ run us p e)
inside_run (Inside.here f) o = (o, forms_run f o)
inside_run (Inside.deeper {d = d} {ts = ts} f opens i) o =
    let r = inside_run i (suc o) in
    (r.0, λ us. ap (λ (l : List Piece). run l o (suc d)) (append_assoc ts _ us) ∙ forms_run f o _ ∙ r.1 us)

-- the first token is that of the form, which takes a level
abbrev pub top : ℕ → List Piece → Ran
top zero ts = stuck
top (suc d) [] = stuck
top (suc d) (t ∷ ts) = run ts 0 d

pub form_top : {d : ℕ} {ts : List Piece} → Form d ts → (us : List Piece) → top d (ts ++ us) ≡ closed us
form_top (Form.form {d = d} {inner = inner} opens f closes) us =
    ap (λ (l : List Piece). run l 0 d) (append_assoc inner _ us) ∙ forms_run f 0 _

pub begun_top : {d e : ℕ} {ts : List Piece} → Begun d e ts → (p : ℕ) × ((us : List Piece) → top d (ts ++ us) ≡ run us p e)
begun_top (Begun.begun opens i) = inside_run i 0
