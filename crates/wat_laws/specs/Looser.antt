-- Settings side by side: which refuse no more than others, and which differ in strict digits alone.
use Rattle.std.specs.Prelude.{◌≡◌, true, false, Some, None, Ok, Err}
use Rattle.wat.specs.declared.Settings.{Settings}
use Rattle.wat.specs.Answers.{Answer}
use Rattle.wat.specs.declared.LexError.TheVariants.{DoubleUnderscore}

-- τ refuses nothing that σ lets pass
pub record Looser (σ τ : Settings) : Type 0 where
  pub confusing : σ.allow_confusing ≡ true → τ.allow_confusing ≡ true
  pub digits : τ.strict_digits ≡ true → σ.strict_digits ≡ true

-- the same settings with strict digits off
abbrev pub unstrict : Settings → Settings
unstrict σ = record { allow_confusing = σ.allow_confusing; strict_digits = false }

-- an answer other than 25
abbrev pub NotDouble : Answer → Type 0
NotDouble (Ok None) = Unit {0}
NotDouble (Ok (Some l)) = Unit {0}
NotDouble (Err f) = f.error ≡ DoubleUnderscore → ⊥
