-- Which texts and positions are refused before lexing, by 1 to 4 (docs/RULES.md, 1).
use Rattle.std.specs.Prelude.{ℕ, ◌≤◌, ◌<◌, List, length}
use Rattle.wat.specs.Checked.{Bad}
use Rattle.wat.specs.declared.Refusal.TheVariants.{TooLong, NotUtf8}
use Rattle.wat.specs.declared.Refused.{Refused}
use Rattle.wat.specs.Utf8.{Says}
use Rattle.wat.specs.Calls as calls

-- 1 to 4
abbrev pub Refuses : List ℕ → ℕ → Refused → Type 0
Refuses text pos r = calls.Rejected text pos r.refusal r.place

-- 1 and 2, which do not depend on the position
pub data RefusesText (text : List ℕ) (pos : ℕ) : Refused → Type 0 where
  too_long : calls.most < length text → RefusesText text pos (record { refusal = TooLong; place = pos })
  not_utf8 : {n e : ℕ} → length text ≤ calls.most → Says text (Bad n e)
      → RefusesText text pos (record { refusal = NotUtf8 n e; place = n })
