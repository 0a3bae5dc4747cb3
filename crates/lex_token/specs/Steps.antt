-- The model's answers as the code gives them, counted from the text's start.
use Rattle.std.specs.Prelude.{ℕ, ◌+◌, ◌≤◌, ◌<◌, ◌≡◌, List, length, drop, Option, Some, None, Ok, Err}
use Rattle.wat.specs.declared.Fault.{Fault}
use Rattle.wat.specs.Answers.{Answer}
use Rattle.wat.specs.Answers as answer
use Rattle.wat.specs.declared.Settings.{Settings}
use Rattle.wat.specs.Faults.{shift}
use Rattle.wat.specs.LexModel.{lex}
use Rattle.lex_token.specs.declared.Step.{Step}

abbrev pub step_of : ℕ → Answer → Option Step
step_of at (Ok None) = None
step_of at (Ok (Some l)) = Some (record { kind = l.kind; end = at + l.len })
step_of at (Err f) = None

-- the step is that of the answer for what is left from a place on
pub record Stepped (σ : Settings) (s : List ℕ) (at : ℕ) (r : Option Step) : Type 0 where
  pub same : r ≡ step_of at (lex σ (drop at s))
  pub onward : (x : Step) → r ≡ Some x → at < x.end
  pub within : (x : Step) → r ≡ Some x → x.end ≤ length s

-- a step that is known without the settings is that of the answer, whatever they are
pub record Quick (s : List ℕ) (at : ℕ) (r : Option Step) : Type 0 where
  pub known : (x : Step) → r ≡ Some x → (σ : Settings) → Stepped σ s at r

-- where the answer is a fault, f is that fault, counted from the text's start
pub record Faults (at : ℕ) (a : Answer) (f : Fault) : Type 0 where
  pub is : (x : Fault) → a ≡ answer.Fault x → f ≡ shift at x
