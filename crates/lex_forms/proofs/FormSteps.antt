-- What stands in a form up to a place, token by token and form by form, and from there to the answers of `inner` and
-- `fold`. Assumes nothing.
use Prim.Native.Nat.{ℕ, suc, ◌+◌, ◌-◌, ◌≤◌}
use mathlib.Core.Path.{◌≡◌, refl, sym, ap, subst}
use mathlib.Core.List.{List, [], ◌∷◌, ◌++◌, append_assoc}
use native.Mathlib.Omega.{arith}
use lib.ListN.{length, drop, length-drop}
use types.Run.{OneOf}
use Rattle.wat.specs.declared.{TokenKind.TokenKind, Settings.Settings, Fault.Fault}
use Rattle.wat.specs.Answers.{Answer}
use Rattle.wat.specs.declared.TokenKind.TheVariants as kind
use Rattle.wat.specs.declared.Refusal.TheVariants.{Lexical, NotThatKind}
use Rattle.wat.specs.Answers as answer
use Rattle.wat.specs.{Lexing.Lexed, Calls.Stands, Division.Piece, Division.Walked}
use Rattle.wat.proofs.Basics.{differ}
use Rattle.wat.proofs.Unique.{token_same, lexed_one}
use Rattle.wat_laws.proofs.Walks.{walked_start, walked_one, walked_then, walked_more, stands_on}
use Rattle.wat_laws.proofs.Divisions.{token_size}
use Rattle.lex_calls.proofs.CallLaws.{fault_fits}
use Rattle.wat_forms.specs.Folded.{Folded}
use Rattle.wat_forms.specs.Folded as folded
use Rattle.std.specs.Prelude.{Ok, Err, IsErr, IsErrAnd}
use Rattle.wat.specs.declared.Refused.{Refused}
use Rattle.wat_forms.specs.declared.FoldError.{FoldError}
use Rattle.wat_forms.specs.declared.FoldError.TheVariants as error
use Rattle.lex_entry.specs.Checks.{Refuses}
use Rattle.wat_forms.specs.Forms.{Opens, Closes, Forms, Form, Inside, Begun, deepest, Halts, Folds}
use Rattle.lex_forms.specs.Inner.{InnerFolds}

-- what is one of these in its type is not what is none of them
pub not_one : {A : Type 0} (place : A → ℕ) (keys : List ℕ) {x : A} (y : A) → (OneOf keys (place y) → ⊥) → OneOf keys (place x)
    → x ≡ y → ⊥
not_one {A} place keys y m h e = m (subst (λ (z : A). OneOf keys (place z)) e h)

-- ---- forms, one behind the other and one in the other

forms_then : {d : ℕ} {ts us : List Piece} → Forms d ts → Forms d us → Forms d (ts ++ us)
forms_then Forms.none g = g
forms_then (Forms.other p q f) g = Forms.other p q (forms_then f g)
forms_then {us = us} (Forms.form {closing = c} {inner = i} {ts = ts} o f e r) g =
    let h = Forms.form o f e (forms_then r g) in
    rw (append_assoc i (c ∷ ts) us) h

module _ {d e : ℕ} (q : d ≡ suc e) {opening : Piece} {ts us : List Piece} (f : Forms d ts) (o : Opens opening) where
  form_behind : {closing : Piece} → Forms e us → Closes closing → Forms d (ts ++ (opening ∷ (us ++ (closing ∷ []))))
  form_behind {closing} g c =
      let h : Forms (suc e) (opening ∷ (us ++ (closing ∷ []))) = Forms.form o g c Forms.none in
      forms_then f (subst (λ (j : ℕ). Forms j (opening ∷ (us ++ (closing ∷ [])))) (sym q) h)

  inside_behind : {i : ℕ} → Inside e i us → Inside d i (ts ++ (opening ∷ us))
  inside_behind {i} g =
      let h : Inside (suc e) i (ts ++ (opening ∷ us)) = Inside.deeper (subst (λ (j : ℕ). Forms j ts) q f) o g in
      subst (λ (j : ℕ). Inside j i (ts ++ (opening ∷ us))) (sym q) h

-- ---- a token that is next

pub as_kind : {σ : Settings} {s : List ℕ} {k : TokenKind} {n : ℕ} (j : TokenKind) → Lexed σ s (answer.Token k n) → k ≡ j
    → Lexed σ s (answer.Token j n)
as_kind {σ} {s} {n = n} j l e = subst (λ (k : TokenKind). Lexed σ s (answer.Token k n)) e l

opening_walked : {σ : Settings} {text : List ℕ} {at n i : ℕ} {us : List Piece} → Stands text at
    → Lexed σ (drop at text) (answer.Token kind.LParen n) → Walked σ text (at + n) i us
    → Walked σ text at i (record { kind = kind.LParen; len = n } ∷ us)
opening_walked {σ} {text} s l w = walked_then σ text (walked_one σ text s l) w

opens_kind : {t : Piece} → Opens t → t.kind ≡ kind.LParen
opens_kind Opens.opens = refl

closes_kind : {t : Piece} → Closes t → t.kind ≡ kind.RParen
closes_kind Closes.closes = refl

-- ---- what `inner` has passed

-- from `start` to `at` stand forms of at most d levels and other tokens
pub record Passed (σ : Settings) (text : List ℕ) (start d at : ℕ) : Type 0 where
  pub tokens : List Piece
  pub walked : Walked σ text start at tokens
  pub forms : Forms d tokens

pub passed_none : {σ : Settings} {text : List ℕ} {start d : ℕ} → Stands text start → Passed σ text start d start
passed_none {σ} {text} s = record { tokens = []; walked = walked_start σ text s; forms = Forms.none }

-- the same, and behind it a closing that ends at `at`
pub record Closed (σ : Settings) (text : List ℕ) (start d at : ℕ) : Type 0 where
  tokens : List Piece
  closing : Piece
  walked : Walked σ text start at (tokens ++ (closing ∷ []))
  forms : Forms d tokens
  closes : Closes closing

pub past_closed : {σ : Settings} {text : List ℕ} {start d at : ℕ} {r : Folded} → InnerFolds σ text start d r
    → r ≡ folded.Past at → Closed σ text start d at
past_closed {σ} {text} {start} {at = at} (InnerFolds.past {closing = c} {ts = ts} {at = i} w f x) q =
    let same : i ≡ at = cc in
    record {
      tokens = ts;
      closing = c;
      walked = subst (λ (j : ℕ). Walked σ text start j (ts ++ (c ∷ []))) same w;
      forms = f;
      closes = x;
    }
past_closed (InnerFolds.fault w f x) q = differ (cc)
past_closed (InnerFolds.too_deep w f x) q = differ (cc)
past_closed (InnerFolds.left_open w f x) q = differ (cc)

pub closed_within : {σ : Settings} {text : List ℕ} {start d at : ℕ} → Closed σ text start d at
    → (start ≤ at) × (at ≤ length text)
closed_within c = (omega (arith, c.walked.place), c.walked.stands.within)

-- ---- the ways on and out, from what is next where it has passed so far

module _ {σ : Settings} {text : List ℕ} {start d at : ℕ} (p : Passed σ text start d at) where
  pub end_open : Lexed σ (drop at text) answer.End → InnerFolds σ text start d (folded.Unclosed at)
  end_open (Lexed.end z) =
      InnerFolds.left_open p.walked (Inside.here p.forms)
      (omega (arith, length-drop at text, ap length z, p.walked.stands.within))

  pub fault_open : {f : Fault} → Lexed σ (drop at text) (answer.Fault f)
      → InnerFolds σ text start d (folded.Refused (Lexical f.error) (at + f.place))
  fault_open l = InnerFolds.fault p.walked (Inside.here p.forms) l

  pub closing_past : {n : ℕ} → Lexed σ (drop at text) (answer.Token kind.RParen n)
      → InnerFolds σ text start d (folded.Past (at + n))
  closing_past l = InnerFolds.past (walked_more σ text p.walked l) p.forms Closes.closes

  pub other_passed : {k : TokenKind} {n : ℕ} → Lexed σ (drop at text) (answer.Token k n) → (k ≡ kind.LParen → ⊥)
      → (k ≡ kind.RParen → ⊥) → Passed σ text start d (at + n)
  other_passed {k} {n} l x y =
      record {
        tokens = p.tokens ++ (record { kind = k; len = n } ∷ []);
        walked = walked_more σ text p.walked l;
        forms = forms_then p.forms (Forms.other (λ o. x (opens_kind o)) (λ o. y (closes_kind o)) Forms.none);
      }

  module _ {n : ℕ} (l : Lexed σ (drop at text) (answer.Token kind.LParen n)) where
    pub opening_deep : d ≡ 0 → InnerFolds σ text start d (folded.TooDeep at)
    opening_deep e = InnerFolds.too_deep p.walked (subst (λ (j : ℕ). Inside d j p.tokens) e (Inside.here p.forms)) l

    module _ (h : d ≡ 0 → ⊥) where
      level : d ≡ suc (d - 1)
      level = omega arith

      onward : {i : ℕ} {us : List Piece} → Walked σ text (at + n) i us
          → Walked σ text start i (p.tokens ++ (record { kind = kind.LParen; len = n } ∷ us))
      onward w = walked_then σ text p.walked (opening_walked p.walked.stands l w)

      pub form_passed : {end : ℕ} → Closed σ text (at + n) (d - 1) end → Passed σ text start d end
      form_passed c =
          record {
            tokens = p.tokens ++ (record { kind = kind.LParen; len = n } ∷ (c.tokens ++ (c.closing ∷ [])));
            walked = onward c.walked;
            forms = form_behind level p.forms Opens.opens c.forms c.closes;
          }

      -- what refuses the inner form refuses the outer
      pub inner_refused : {r : Folded} → InnerFolds σ text (at + n) (d - 1) r → ((end : ℕ) → r ≡ folded.Past end → ⊥)
          → InnerFolds σ text start d r
      inner_refused (InnerFolds.past {at = i} w f c) y = absurd (y i refl)
      inner_refused (InnerFolds.fault w i x) y = InnerFolds.fault (onward w) (inside_behind level p.forms Opens.opens i) x
      inner_refused (InnerFolds.too_deep w i x) y = InnerFolds.too_deep (onward w) (inside_behind level p.forms Opens.opens i) x
      inner_refused (InnerFolds.left_open w i e) y = InnerFolds.left_open (onward w) (inside_behind level p.forms Opens.opens i) e

-- `?` passes the refusal on as it is
pub same_refused : {σ : Settings} {text : List ℕ} {start d : ℕ} {r q : Folded} {e : FoldError} → InnerFolds σ text start d r
    → r ≡ Err e → IsErr q × IsErrAnd q (λ x. x ≡ e) → InnerFolds σ text start d q
same_refused {q = Err x} i w f = rw (f.1) (rw w at i)
same_refused {q = Ok n} i w f = absurd (f.1)

-- ---- from what is next at a position to the answer of `fold`

module _ {σ : Settings} {text : List ℕ} {pos : ℕ} (s : Stands text pos) where
  module _ {r : Folded} (e : r ≡ folded.Refused NotThatKind 0) where
    elsewhere : {a : Answer} → Lexed σ (drop pos text) a → ((n : ℕ) → a ≡ answer.Token kind.LParen n → ⊥)
        → Folds σ text pos r
    elsewhere l h = rw e (Folds.elsewhere s (λ n m. h n (lexed_one l m)))

    pub folds_other : {k : TokenKind} {n : ℕ} → Lexed σ (drop pos text) (answer.Token k n) → (k ≡ kind.LParen → ⊥)
        → Folds σ text pos r
    folds_other {k} {n} l h = elsewhere l (λ m (q : answer.Token k n ≡ answer.Token kind.LParen m). h (token_same q).0)

    pub folds_end : Lexed σ (drop pos text) answer.End → Folds σ text pos r
    folds_end l = elsewhere l (λ m (q : answer.End ≡ answer.Token kind.LParen m). differ (cc))

    pub folds_fault : {f : Fault} → Lexed σ (drop pos text) (answer.Fault f) → Folds σ text pos r
    folds_fault {f} l = elsewhere l (λ m (q : answer.Fault f ≡ answer.Token kind.LParen m). differ (cc))

  -- the form that begins there is itself the first level
  pub folds_form : {n d : ℕ} {r : Folded} → Lexed σ (drop pos text) (answer.Token kind.LParen n) → InnerFolds σ text (pos + n) d r
      → d ≡ deepest - 1 → Folds σ text pos r
  folds_form {n} {d} {r} l i e = go (subst (λ (j : ℕ). InnerFolds σ text (pos + n) j r) e i)
    where
      go : {r : Folded} → InnerFolds σ text (pos + n) (deepest - 1) r → Folds σ text pos r
      go (InnerFolds.past w f c) = Folds.walks s (opening_walked s l w) (Halts.past (Form.form Opens.opens f c))
      go (InnerFolds.fault w i x) = Folds.walks s (opening_walked s l w) (Halts.fault (Begun.begun Opens.opens i) x)
      go (InnerFolds.too_deep w i x) = Folds.walks s (opening_walked s l w) (Halts.too_deep (Begun.begun Opens.opens i) x)
      go (InnerFolds.left_open w i q) = Folds.walks s (opening_walked s l w) (Halts.left_open (Begun.begun Opens.opens i) q)

-- 1 to 4
pub folds_rejected : {σ : Settings} {text : List ℕ} {pos : ℕ} {r : Refused} {e : FoldError} → Refuses text pos r
    → e ≡ error.Refused r → Folds σ text pos (Err e)
folds_rejected h q = rw q (Folds.rejected h)

-- what `inner`, `fold_at` and `fold` answer
pub ruleset inners = (
  passed_none,
  end_open,
  fault_open,
  closing_past,
  other_passed,
  opening_deep,
  form_passed,
  inner_refused,
  past_closed,
  closed_within,
  stands_on,
  token_size,
  fault_fits,
)

pub ruleset folding = (folds_other, folds_end, folds_fault, folds_form, stands_on)

pub ruleset refusals = (folds_rejected)
