-- The words in which the theorems on listings and windows are said: why a listing stops, which answers for a piece of a
-- text are the text's own, and answers counted from further ahead.
use Rattle.std.specs.Prelude.{ℕ, ◌+◌, ◌<◌, ◌≡◌, ◌⊎◌, List, length, Some, None, Ok, Err}
use Rattle.wat.specs.declared.{Parsed.Parsed, Listed.Listed, Token.Token}
use Rattle.wat.specs.Answers.{Answer}
use Rattle.wat.specs.declared.{LexError.LexError, Refusal.Refusal}
use Rattle.wat.specs.Found as found
use Rattle.wat.specs.Stopped as stop
use Rattle.wat.specs.declared.LexError.TheVariants.{DanglingBlockComment}
use Rattle.wat.specs.declared.Refusal.TheVariants.{Lexical}
use Rattle.wat.specs.Found.{Found}
use Rattle.wat.specs.Stopped.{Stopped}
use Rattle.wat.specs.Calls.{Rejected}

-- ---- why a listing stops

-- how a listing from `start` stops that neither budget nor room stops: at the end, by 1 to 4, or by an error
pub data Settled (text : List ℕ) (start : ℕ) : Stopped → Type 0 where
  end : Settled text start stop.End
  rejected : {r : Refusal} {p : ℕ} → Rejected text start r p → Settled text start (stop.Refused r p)
  error : {e : LexError} {p : ℕ} → Settled text start (stop.Refused (Lexical e) p)

-- the listing can be asked again at its position: the budget stopped it, or 33
abbrev pub Paused : Stopped → Type 0
Paused why = (why ≡ stop.Budget) ⊎ (why ≡ stop.Full)

-- ---- what a piece of a text decides

-- a byte of s follows what the answer consumes, and the answer is not 10, which looks at all that is left
abbrev pub DecidedAnswer : List ℕ → Answer → Type 0
DecidedAnswer s (Ok None) = ⊥
DecidedAnswer s (Ok (Some l)) = l.len < length s
DecidedAnswer s (Err f) = (f.after < length s) × (f.error ≡ DanglingBlockComment → ⊥)

-- an answer for the front that is also the text's: a token, or an error of lexing other than 10, with the position
-- afterwards before the front's end
pub data Decided (front : List ℕ) : Found → ℕ → Type 0 where
  token : {t : Token} {q : ℕ} → q < length front → Decided front (found.Token t) q
  error : {e : LexError} {p q : ℕ} → (e ≡ DanglingBlockComment → ⊥) → q < length front
      → Decided front (found.Refused (Lexical e) p) q

-- why a listing of the front stops, where a listing of the text does too: the budget, or such an error
pub data DecidedStop (front : List ℕ) : Stopped → ℕ → Type 0 where
  budget : {q : ℕ} → DecidedStop front stop.Budget q
  error : {e : LexError} {p q : ℕ} → (e ≡ DanglingBlockComment → ⊥) → q < length front
      → DecidedStop front (stop.Refused (Lexical e) p) q

-- ---- answers counted from n bytes further ahead

abbrev pub moved_found : ℕ → Found → Found
moved_found n (Ok None) = found.Nothing
moved_found n (Ok (Some t)) = found.Token (record { kind = t.kind; offset = n + t.offset; len = t.len })
moved_found n (Err e) = found.Refused e.refusal (n + e.place)

abbrev pub moved_parsed : ℕ → Parsed → Parsed
moved_parsed n r = record { found = moved_found n r.found; position = n + r.position }

abbrev pub moved_stop : ℕ → Stopped → Stopped
moved_stop n (Ok why) = Ok why
moved_stop n (Err e) = stop.Refused e.refusal (n + e.place)

abbrev pub moved_listed : ℕ → Listed → Listed
moved_listed n r = record { stop = moved_stop n r.stop; count = r.count; position = n + r.position }
