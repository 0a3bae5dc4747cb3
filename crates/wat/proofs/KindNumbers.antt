-- No two kinds have one number: a kind is found again from its number, by the rest by 256 and the details in the quotient.
-- No number is 0, and all are below 4096. Assumes nothing.
use Prim.Native.Nat.{ℕ, zero, suc, ◌%◌, ◌≤◌, ◌<◌}
use mathlib.Core.Path.{◌≡◌, refl, sym, ap, ◌∙◌}
use mathlib.Core.Bool.{Bool, true, false}
use native.Mathlib.Omega.{arith}
use lib.Dec.{eqb}
use lib.ListN.{get_or, get_or-eq_default}
use borrow.Author.Tests.{eqb-true, eqb-false}
use Rattle.wat.specs.declared.Sign.{Sign}
use Rattle.wat.specs.declared.Sign.TheVariants.{Unsigned, Plus, Minus}
use Rattle.wat.specs.declared.IntegerKind.{IntegerKind}
use Rattle.wat.specs.declared.FloatKind.{FloatKind}
use Rattle.wat.specs.declared.FloatKind.TheVariants.{Inf, Nan, NanVal, Normal}
use Rattle.wat.specs.declared.TokenKind.{TokenKind}
use Rattle.wat.specs.declared.TokenKind.TheVariants.{LineComment, BlockComment, Whitespace, LParen, RParen, String, Id, Keyword}
use Rattle.wat.specs.declared.TokenKind.TheVariants.{Annotation, Reserved, Integer, Float}
use Rattle.wat.specs.Cases.{flag, sign_number, kind_number}
use Rattle.wat.specs.KindModel.{detail, sign_at, integer_at, kinds, kind_at}

abbrev Again : TokenKind → Type 0
Again k = k ≡ kind_at (kind_number k)

integer : (s : Sign) (u h : Bool) → Again (Integer (record { sign = s; underscores = u; hex = h }))
integer Unsigned true true = refl
integer Unsigned true false = refl
integer Unsigned false true = refl
integer Unsigned false false = refl
integer Plus true true = refl
integer Plus true false = refl
integer Plus false true = refl
integer Plus false false = refl
integer Minus true true = refl
integer Minus true false = refl
integer Minus false true = refl
integer Minus false false = refl

float : (f : FloatKind) → Again (Float f)
float (Inf true) = refl
float (Inf false) = refl
float (Nan true) = refl
float (Nan false) = refl
float (NanVal true true) = refl
float (NanVal true false) = refl
float (NanVal false true) = refl
float (NanVal false false) = refl
float (Normal true true) = refl
float (Normal true false) = refl
float (Normal false true) = refl
float (Normal false false) = refl

pub found_again : (k : TokenKind) → Again k
found_again LineComment = refl
found_again BlockComment = refl
found_again Whitespace = refl
found_again LParen = refl
found_again RParen = refl
found_again String = refl
found_again Id = refl
found_again Keyword = refl
found_again Annotation = refl
found_again Reserved = refl
found_again (Integer i) = integer i.sign i.underscores i.hex
found_again (Float f) = float f

-- two kinds of one number are one
pub injective : (a b : TokenKind) → kind_number a ≡ kind_number b → a ≡ b
injective a b e = found_again a ∙ ap kind_at e ∙ sym (found_again b)

-- a kind of the number `n`, by the rest of `n`
pub only : (n r : ℕ) → n % 256 ≡ r → (k : TokenKind) → kind_number k ≡ n → k ≡ get_or (kinds n) r Reserved
only n r z k e = found_again k ∙ ap kind_at e ∙ ap (λ (x : ℕ). get_or (kinds n) x Reserved) z

pub only_sign : (n : ℕ) → n % 256 ≡ 11 → (i : IntegerKind) → kind_number (Integer i) ≡ n → i.sign ≡ sign_at n
only_sign n z i e = cc (only n 11 z (Integer i) e)

-- an integer's kind, from the sign that it has
pub only_integer : (n : ℕ) → n % 256 ≡ 11 → (s : Sign) → ((i : IntegerKind) → kind_number (Integer i) ≡ n → i.sign ≡ s)
    → (k : TokenKind) → kind_number k ≡ n → k ≡ Integer (record { sign = s; underscores = detail n 1024; hex = detail n 2048 })
only_integer n z s f k e =
    let q = only n 11 z k e in
    q ∙ ap (λ (t : Sign). Integer (record { sign = t; underscores = detail n 1024; hex = detail n 2048 }))
    (f (integer_at n) (sym (ap kind_number q) ∙ e))

-- `r` is none of the numbers from 1 to `m`
abbrev NoneTo : ℕ → ℕ → Type 0
NoneTo zero r = Unit
NoneTo (suc m) r = NoneTo m r × (r ≡ suc m → ⊥)

beyond : (m r : ℕ) → NoneTo m r → (r ≡ 0 → ⊥) → m < r
beyond zero r h z = omega arith
beyond (suc m) r h z = let l = beyond m r h.0 z in omega (arith, h.1)

-- no kind has another rest
pub only_reserved : (n : ℕ) → NoneTo 15 (n % 256) → (k : TokenKind) → kind_number k ≡ n → k ≡ Reserved
only_reserved n h k e = go (eqb (n % 256) 0) refl
  where
    go : (b : Bool) → eqb (n % 256) 0 ≡ b → k ≡ Reserved
    go true p = only n 0 (eqb-true (n % 256) 0 p) k e
    go false p = only n (n % 256) refl k e ∙ get_or-eq_default (kinds n) Reserved (beyond 15 (n % 256) h (eqb-false (n % 256) 0 p))

-- 0 is no kind's number
pub kind_some : (k : TokenKind) → kind_number k ≡ 0 → ⊥
kind_some k e = let z : kind_number k ≡ 10 = ap kind_number (only 0 0 refl k e) in omega arith

flag_most : (b : Bool) (n : ℕ) → flag b n ≤ n
flag_most true n = omega arith
flag_most false n = omega arith

sign_most : (s : Sign) → sign_number s ≤ 512
sign_most Unsigned = omega arith
sign_most Plus = omega arith
sign_most Minus = omega arith

-- twelve bits hold a kind's number
pub kind_small : (k : TokenKind) → kind_number k < 4096
kind_small LineComment = omega arith
kind_small BlockComment = omega arith
kind_small Whitespace = omega arith
kind_small LParen = omega arith
kind_small RParen = omega arith
kind_small String = omega arith
kind_small Id = omega arith
kind_small Keyword = omega arith
kind_small Annotation = omega arith
kind_small Reserved = omega arith
kind_small (Integer i) = omega (arith, sign_most i.sign, flag_most i.underscores 1024, flag_most i.hex 2048)
kind_small (Float (Inf n)) = omega (arith, flag_most n 512)
kind_small (Float (Nan n)) = omega (arith, flag_most n 512)
kind_small (Float (NanVal n u)) = omega (arith, flag_most n 512, flag_most u 1024)
kind_small (Float (Normal u h)) = omega (arith, flag_most u 1024, flag_most h 2048)
