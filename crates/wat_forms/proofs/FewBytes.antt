-- What a few bytes decide: a parenthesis is one byte; a closing one is a token whatever follows, an opening one by the byte
-- behind it; and but for 10 and 21 no more than a character is read behind an error's place. Assumes nothing.
use Prim.Native.Nat.{ℕ, suc, ◌+◌, ◌≤◌, ◌<◌}
use mathlib.Core.Path.{◌≡◌, refl, sym, ap, ◌∙◌, subst}
use mathlib.Core.Bool.{Bool, true, false}
use mathlib.Core.Option.{Option, none, some}
use mathlib.Core.List.{List, [], ◌∷◌, ◌++◌}
use native.Mathlib.Omega.{arith}
use lib.Dec.{eqb, ltb}
use lib.ListN.{length, take, drop, take-append-drop}
use lib.Seq.{length-take-le}
use Rattle.wat.specs.declared.{Settings.Settings, Fault.Fault, LexError.LexError, Family.Family, Hidden.Hidden}
use Rattle.wat.specs.Answers.{Answer}
use Rattle.wat.specs.declared.TokenKind.TheVariants as kind
use Rattle.wat.specs.declared.LexError.TheVariants.{ConfusingUnicode}
use Rattle.wat.specs.Answers as answer
use Rattle.wat.specs.declared.Hidden.TheVariants.{Clear as clear, Found as found}
use Rattle.wat.specs.{Bytes.bytes, Bytes.byte, Utf8.WellFormed}
use Rattle.wat.specs.StringFaults.{Bad, BadStr}
use Rattle.wat.specs.CommentModel.{fresh, ends}
use Rattle.wat.specs.LexModel.{hidden, comment_by, comment, block_by, lex_by, lex}
use Rattle.wat.specs.Lexing.{Fails, Lexed}
use Rattle.wat.proofs.Basics.{differ}
use Rattle.wat.proofs.ScalarValues.{char_short}
use Rattle.wat.proofs.Shapes.{Shape, a_close, an_open, open_one, close_one, tok_shape}
use Rattle.wat.proofs.Unique.{token_same, lexed_one, family_open, family_close}
use Rattle.wat_laws.proofs.Total.{lexed}

-- ---- parentheses

open_bytes : {w : List ℕ} → Shape open_one w → w ≡ bytes "("
open_bytes an_open = refl

close_bytes : {w : List ℕ} → Shape close_one w → w ≡ bytes ")"
close_bytes a_close = refl

pub opens_by_one : {σ : Settings} {s : List ℕ} {n : ℕ} → Lexed σ s (answer.Token kind.LParen n) → n ≡ 1
opens_by_one {s = s} {n = n} (Lexed.token l f) =
    sym (length-take-le n s l.fits) ∙ ap length (open_bytes (tok_shape l.is))

-- what begins with a byte
starts : (x : ℕ) (s : List ℕ) (n : ℕ) → take n s ≡ x ∷ [] → (t : List ℕ) × (s ≡ x ∷ t)
starts x s n e = (drop n s, sym (take-append-drop n s) ∙ ap (λ (z : List ℕ). z ++ drop n s) e)

-- an opening's text begins with `(`
pub opens_with : {σ : Settings} {s : List ℕ} {n : ℕ} → Lexed σ s (answer.Token kind.LParen n)
    → (t : List ℕ) × (s ≡ byte "(" ∷ t)
opens_with {s = s} {n = n} (Lexed.token l f) = starts (byte "(") s n (open_bytes (tok_shape l.is))

lex_close : (σ : Settings) (t : List ℕ) → lex σ (byte ")" ∷ t) ≡ answer.Token kind.RParen 1
unfolding lex
lex_close σ t = ap (λ (f : Family). lex_by σ f (byte ")" ∷ t)) family_close

pub close_window : {σ : Settings} {s : List ℕ} {n : ℕ} (u : List ℕ) → WellFormed s → WellFormed (s ++ u)
    → Lexed σ s (answer.Token kind.RParen n) → Lexed σ (s ++ u) (answer.Token kind.RParen n)
close_window {σ} {s} {n} u g h (Lexed.token l f) =
    let t = starts (byte ")") s n (close_bytes (tok_shape l.is)) in
    let e : lex σ s ≡ answer.Token kind.RParen 1 = ap (lex σ) t.1 ∙ lex_close σ t.0 in
    let e' : lex σ (s ++ u) ≡ answer.Token kind.RParen 1 =
    ap (λ (z : List ℕ). lex σ (z ++ u)) t.1 ∙ lex_close σ (t.0 ++ u) in
    let q = lexed_one (Lexed.token l f) (lexed σ g) in
    subst (λ (a : Answer). Lexed σ (s ++ u) a) (e' ∙ sym (q ∙ e)) (lexed σ h)

-- a block comment is no opening
comment_other : (σ : Settings) (n m : ℕ) (s : List ℕ) → answer.Token kind.LParen m ≡ comment σ kind.BlockComment n s → ⊥
unfolding comment
comment_other σ n m s q = go σ.allow_confusing (hidden (suc (length s)) s) q
  where
    shown : (b : Bool) (f : Fault) → answer.Token kind.LParen m
        ≡ elim b [ true ↦ answer.Fault f | false ↦ answer.Token kind.BlockComment n ] → ⊥
    shown true f q = differ (cc)
    shown false f q = let k = (token_same q).0 in differ (cc)

    go : (b : Bool) (h : Hidden) → answer.Token kind.LParen m
        ≡ elim b [ true ↦ answer.Token kind.BlockComment n | false ↦ comment_by kind.BlockComment n h ] → ⊥
    go true h q = let k = (token_same q).0 in differ (cc)
    go false clear q = let k = (token_same q).0 in differ (cc)
    go false (found p c) q = shown (ltb p n) _ q

block_other : (σ : Settings) (m : ℕ) (s : List ℕ) (o : Option ℕ) → answer.Token kind.LParen m ≡ block_by σ s o → ⊥
block_other σ m s none q = differ (cc)
block_other σ m s (some n) q = comment_other σ (2 + n) m s q

-- `(` is an opening if what follows is not `;`, whatever else follows
lex_open : (σ : Settings) (y : ℕ) (t : List ℕ) (b : Bool) → eqb y (byte ";") ≡ b → lex σ (byte "(" ∷ y ∷ t)
    ≡ elim b [ true ↦ block_by σ (byte "(" ∷ y ∷ t) (ends fresh 0 t) | false ↦ answer.Token kind.LParen 1 ]
unfolding lex
lex_open σ y t b e =
    let s = byte "(" ∷ y ∷ t in
    ap (λ (f : Family). lex_by σ f s) family_open
    ∙ ap (λ (c : Bool). elim c [ true ↦ block_by σ s (ends fresh 0 t) | false ↦ answer.Token kind.LParen 1 ]) e

pub open_front : {σ : Settings} {m : ℕ} (s u : List ℕ) → WellFormed s → WellFormed (s ++ u) → 1 < length s
    → Lexed σ (s ++ u) (answer.Token kind.LParen m) → Lexed σ s (answer.Token kind.LParen 1)
open_front [] u g h b l = absurd (omega arith)
open_front (x ∷ []) u g h b l = absurd (omega arith)
open_front {σ} {m} (x ∷ y ∷ t) u g h b (Lexed.token l f) = go (eqb y (byte ";")) refl
  where
    first : x ≡ byte "("
    first = let e = (opens_with (Lexed.token l f)).1 in cc

    go : (b : Bool) → eqb y (byte ";") ≡ b → Lexed σ (x ∷ y ∷ t) (answer.Token kind.LParen 1)
    go true e =
        let q = lexed_one (Lexed.token l f) (lexed σ h) in
        let z : lex σ (x ∷ y ∷ (t ++ u)) ≡ block_by σ (byte "(" ∷ y ∷ (t ++ u)) (ends fresh 0 (t ++ u)) =
        ap (λ (i : ℕ). lex σ (i ∷ y ∷ (t ++ u))) first ∙ lex_open σ y (t ++ u) true e in
        absurd (block_other σ m (byte "(" ∷ y ∷ (t ++ u)) (ends fresh 0 (t ++ u)) (q ∙ z))
    go false e =
        let z : lex σ (x ∷ y ∷ t) ≡ answer.Token kind.LParen 1 =
        ap (λ (i : ℕ). lex σ (i ∷ y ∷ t)) first ∙ lex_open σ y t false e in
        subst (λ (a : Answer). Lexed σ (x ∷ y ∷ t) a) z (lexed σ g)

-- ---- errors

bad_near : {σ : Settings} {p c u : List ℕ} {e : LexError} → Bad σ p c u e → length c ≤ 4
bad_near (Bad.other a ch t) = char_short ch
bad_near (Bad.end a) = omega arith
bad_near (Bad.big k p r f h n) = omega arith
bad_near (Bad.lone k p r f n) = omega arith
bad_near (Bad.double e r f) = omega arith
bad_near (Bad.value r f n e) = omega arith
bad_near (Bad.hidden ch e f) = char_short ch

string_near : {σ : Settings} {t : List ℕ} {f : Fault} → BadStr σ t f → f.after ≤ f.place + 4
string_near (BadStr.quoted {b = b} {p = p} {c = c} r x) = let h = bad_near x in omega arith

pub fault_near : {σ : Settings} {s : List ℕ} {f : Fault} → Lexed σ s (answer.Fault f)
    → ((c : ℕ) → f.error ≡ ConfusingUnicode c → ⊥) → f.after ≤ f.place + 4
fault_near (Lexed.fails (Fails.dangling h)) n = omega arith
fault_near (Lexed.fails (Fails.unexpected t ch e)) n = omega arith
fault_near (Lexed.fails (Fails.comment t a k l p ch e b)) n = absurd (n _ refl)
fault_near (Lexed.fails (Fails.string r x)) n = let h = string_near x in omega arith
