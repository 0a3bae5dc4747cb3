-- What it is to hand over digits and their sign.
use Rattle.std.specs.Prelude.{ℕ, ◌+◌, ◌≡◌, Bool, false, List, ◌++◌, length}
use Rattle.wat.specs.declared.{Sign.Sign}
use Rattle.wat_values.specs.Answered.{Reading}
use Rattle.wat_values.specs.Values.{copy_or_part, bare, kept}
use Rattle.wat_values.specs.Reading.{Handed}

-- digits that can be handed over where they are: without underscore, beside their sign, which begins at `start`
pub record Beside (sign : Sign) (start from : ℕ) (p : List ℕ) : Type 0 where
  pub next : start + length (kept sign) ≡ from
  pub plain : bare p ≡ p

-- the digits p at `from`, with their sign, as the value of a token at o; uncopied they stand n bytes after o
abbrev pub HandsDigits : Bool → Sign → ℕ → List ℕ → List ℕ → Reading → List ℕ → Type 0
HandsDigits copied sign from p buffer r after =
    (o n : ℕ) → (copied ≡ false → Beside sign (o + n) from p)
    → Handed o (copy_or_part copied n (kept sign ++ bare p)) buffer r after
