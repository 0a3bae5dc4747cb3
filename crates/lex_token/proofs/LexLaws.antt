-- The model's answer by the family of the first byte, and how far an answer reaches. Assumes nothing.
use Prim.Native.Nat.{ℕ, zero, suc, ◌≤◌, ◌<◌}
use mathlib.Core.Path.{◌≡◌, refl, sym, ap, ◌∙◌}
use mathlib.Core.List.{List, ◌∷◌, ◌++◌}
use native.Mathlib.Omega.{arith}
use lib.ListN.{length, get_or, drop, length-append}
use lib.Seq.{drop-cons}
use Rattle.std.specs.Prelude.{Some, None, Ok, Err}
use Rattle.wat.specs.Bytes.{byte}
use Rattle.wat.specs.declared.TokenKind.{TokenKind}
use Rattle.wat.specs.declared.Fault.{Fault}
use Rattle.wat.specs.Answers.{Answer}
use Rattle.wat.specs.declared.Settings.{Settings}
use Rattle.wat.specs.Utf8.{WellFormed}
use Rattle.wat.specs.StringFaults.{BadStr}
use Rattle.wat.specs.Lexing.{Longest, Fails, Lexed}
use Rattle.wat.specs.LexModel as lex
use Rattle.wat.specs.LexModel.{family, lex_by}
use Rattle.wat.proofs.Unique.{tok_some}
use Rattle.wat_laws.proofs.Total.{lexed}
use Rattle.wat.specs.declared.Family.{Family}

-- ---- by the family of the first byte

pub lex_family :
    (σ : Settings) (s : List ℕ) (at : ℕ) {f : Family} → at < length s → family (get_or s at 0) ≡ f
    → lex.lex σ (drop at s) ≡ lex_by σ f (drop at s)
unfolding lex.lex
lex_family σ s at {f} h e =
    let d = drop-cons s at 0 h in
    ap (lex.lex σ) d ∙ ap (λ (g : Family). lex_by σ g (get_or s at 0 ∷ drop (suc at) s)) e ∙ ap (lex_by σ f) (sym d)

-- ---- a token is not empty, and an answer stays in the text

pub longest_some : {s : List ℕ} {k : TokenKind} {n : ℕ} → Longest s k n → 0 < n
longest_some {s} {k} {n} l = go n l
  where
    go : (n : ℕ) → Longest s k n → 0 < n
    go zero l = absurd (tok_some l.is refl)
    go (suc n) l = omega arith

fault_within : {σ : Settings} {s : List ℕ} {f : Fault} → Fails σ s f → (f.place ≤ length s) × (f.after ≤ length s)
fault_within (Fails.dangling g) = (omega arith, omega arith)
fault_within (Fails.unexpected t ch g) = (omega arith, omega arith)
fault_within (Fails.comment {n = n} {p = p} {c = c} t g k l pl ch cf b) = (omega (arith, l.fits), l.fits)
fault_within (Fails.string {w = w} r (BadStr.quoted {b = b} {p = p} {c = c} {u = u} q x)) =
    let a = length-append w (byte "\"" ∷ (b ++ (p ++ (c ++ u)))) in
    let d = length-append b (p ++ (c ++ u)) in
    let f = length-append p (c ++ u) in
    let g = length-append c u in
    (omega arith, omega arith)

abbrev pub Within : List ℕ → Answer → Type 0
Within s (Ok None) = Unit {0}
Within s (Ok (Some l)) = (0 < l.len) × (l.len ≤ length s)
Within s (Err f) = (f.place ≤ length s) × (f.after ≤ length s)

pub lexed_within : {σ : Settings} {s : List ℕ} {a : Answer} → Lexed σ s a → Within s a
lexed_within (Lexed.end e) = tt
lexed_within (Lexed.token l n) = (longest_some l, l.fits)
lexed_within (Lexed.fails f) = fault_within f

pub lex_within : (σ : Settings) {s : List ℕ} → WellFormed s → Within s (lex.lex σ s)
lex_within σ g = lexed_within (lexed σ g)
