-- What the checks of a text and a position say of the calls. Assumes nothing.
use Prim.Native.Nat.{ℕ}
use mathlib.Core.List.{List}
use Rattle.std.specs.Prelude.{Err}
use Rattle.wat.specs.declared.Settings.{Settings}
use Rattle.wat.specs.declared.Refused.{Refused}
use Rattle.wat.specs.Calls as calls
use Rattle.lex_entry.specs.Checks.{Refuses, RefusesText}

module _ {text : List ℕ} {pos : ℕ} where
  -- a text that is refused is refused at each position
  pub refuses : {r : Refused} → RefusesText text pos r → Refuses text pos r
  refuses (RefusesText.too_long h) = calls.Rejected.too_long h
  refuses (RefusesText.not_utf8 h b) = calls.Rejected.not_utf8 h b

  -- the same of `annotation`
  pub annotates : {σ : Settings} {r : Refused} → RefusesText text pos r → calls.Annotates σ text pos (Err r)
  annotates (RefusesText.too_long h) = calls.Annotates.too_long h
  annotates (RefusesText.not_utf8 h b) = calls.Annotates.not_utf8 h b

-- what `check_text` and `enter` answer
pub ruleset checked = (RefusesText.too_long, RefusesText.not_utf8)

pub ruleset placed = (refuses, calls.Rejected.past_end, calls.Rejected.inside)
