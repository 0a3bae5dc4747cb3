-- What the readers of a whole string answer, in the terms of wat's model.
use Rattle.std.specs.Prelude.{ℕ, suc, ◌+◌, ◌≤◌, ◌≡◌, List, [], length, drop, Result, Ok, Err}
use Rattle.wat.specs.declared.Fault.{Fault}
use Rattle.wat.specs.Faults.{shift}
use Rattle.wat.specs.declared.Settings.{Settings}
use Rattle.wat.specs.RunModel as model
use Rattle.buffers.specs.Writing.{Put}

-- the string whose opening quote stands before t
abbrev pub string : Settings → List ℕ → model.StringRead
string σ t = model.body σ (suc (length t)) t

-- the string behind `at` ends at `end`
pub record Ends (σ : Settings) (s : List ℕ) (at end : ℕ) : Type 0 where
  pub len : ℕ
  pub value : List ℕ
  pub is : string σ (drop at s) ≡ model.closed len value
  pub ends : end ≡ at + len
  pub some : 1 ≤ len
  pub fits : end ≤ length s

-- the string behind `at` is refused
pub record StringFails (σ : Settings) (s : List ℕ) (at : ℕ) (f : Fault) : Type 0 where
  pub from : Fault
  pub is : string σ (drop at s) ≡ model.failed from
  pub stands : f ≡ shift at from
  pub order : from.place ≤ from.after
  pub fits : f.after ≤ length s

abbrev pub Parsed : Settings → List ℕ → ℕ → Result ℕ Fault → Type 0
Parsed σ s at (Ok end) = Ends σ s at end
Parsed σ s at (Err f) = StringFails σ s at f

-- the string has its closing quote, and no error stands before it
abbrev pub Closes : model.StringRead → Type 0
Closes (model.closed n v) = Unit {0}
Closes (model.failed f) = ⊥

-- the bytes that a whole string stands for
abbrev pub value_of : model.StringRead → List ℕ
value_of (model.closed n v) = v
value_of (model.failed f) = []

-- the buffer was d and is e: v stands at its front, and there are n bytes of it
pub record Copied (d e v : List ℕ) (n : ℕ) : Type 0 where
  pub put : Put d e 0 v
  pub long : n ≡ length v
