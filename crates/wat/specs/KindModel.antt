-- The kind that a number names, by the rest by 256 and the details in the quotient.
use Rattle.std.specs.Prelude.{ℕ, ◌/◌, ◌%◌, Bool, true, false, eqb, List, [], ◌∷◌, get_or}
use Rattle.wat.specs.declared.Sign.{Sign}
use Rattle.wat.specs.declared.Sign.TheVariants.{Unsigned, Plus, Minus}
use Rattle.wat.specs.declared.IntegerKind.{IntegerKind}
use Rattle.wat.specs.declared.FloatKind.TheVariants.{Inf, Nan, NanVal, Normal}
use Rattle.wat.specs.declared.TokenKind.{TokenKind}
use Rattle.wat.specs.declared.TokenKind.TheVariants.{LineComment, BlockComment, Whitespace, LParen, RParen, String, Id, Keyword}
use Rattle.wat.specs.declared.TokenKind.TheVariants.{Annotation, Reserved, Integer, Float}

abbrev pub detail : ℕ → ℕ → Bool
detail n bit = eqb (n / bit % 2) 1

abbrev pub sign_at : ℕ → Sign
sign_at n = elim (detail n 256) [ true ↦ Plus | false ↦ elim (detail n 512) [ true ↦ Minus | false ↦ Unsigned ] ]

abbrev pub integer_at : ℕ → IntegerKind
integer_at n = record { sign = sign_at n; underscores = detail n 1024; hex = detail n 2048 }

-- by the rest by 256: the kind with the details that `n` has
abbrev pub kinds : ℕ → List TokenKind
kinds n =
    Reserved
    ∷ LineComment
    ∷ BlockComment
    ∷ Whitespace
    ∷ LParen
    ∷ RParen
    ∷ String
    ∷ Id
    ∷ Keyword
    ∷ Annotation
    ∷ Reserved
    ∷ Integer (integer_at n)
    ∷ Float (Inf (detail n 512))
    ∷ Float (Nan (detail n 512))
    ∷ Float (NanVal (detail n 512) (detail n 1024))
    ∷ Float (Normal (detail n 1024) (detail n 2048))
    ∷ []

abbrev pub kind_at : ℕ → TokenKind
kind_at n = get_or (kinds n) (n % 256) Reserved
