-- The lexer's answers as words, for C: the layout that include/thallusweb.h explains.
use Rattle.std.specs.Prelude.{ℕ, List, [], ◌∷◌, ◌++◌, get_or, Some, None, Ok, Err}
use Rattle.wat.specs.declared.{Refusal.Refusal, Parsed.Parsed, Listed.Listed}
use Rattle.wat.specs.Found.{Found}
use Rattle.wat.specs.Stopped.{Stopped}
use Rattle.wat.specs.Checked.{Checked}
use Rattle.wat.specs.declared.Stop.TheVariants as stop
use Rattle.wat.specs.Cases.{kind_number, number, list_full}
use Rattle.wat_forms.specs.Folded.{Folded}
use Rattle.wat_forms.specs.declared.FoldError.TheVariants as error
use Rattle.wat_forms.specs.Forms.{too_deep_number, unclosed}

-- the number of the words and constants of include/thallusweb.h: a header and a library of one number belong together
abbrev pub words_version : ℕ
words_version = 6

-- 0, or 2 and its two numbers
abbrev pub checked_words : Checked → List ℕ
checked_words (Ok _) = 0 ∷ 0 ∷ 0 ∷ []
checked_words (Err e) = 2 ∷ e.valid_up_to ∷ e.error_len ∷ []

-- a refusal: 2, its number, its place and its values, 0 for those that it has not
abbrev pub refused_words : Refusal → ℕ → List ℕ
refused_words r p = 2 ∷ (number r).0 ∷ p ∷ get_or (number r).1 0 0 ∷ get_or (number r).1 1 0 ∷ []

-- what was found: 0 nothing; 1 a token, its kind's number, offset and length; 2 a refusal
abbrev pub found_words : Found → List ℕ
found_words (Ok None) = 0 ∷ 0 ∷ 0 ∷ 0 ∷ 0 ∷ []
found_words (Ok (Some t)) = 1 ∷ kind_number t.kind ∷ t.offset ∷ t.len ∷ 0 ∷ []
found_words (Err e) = refused_words e.refusal e.place

-- what was found, and the position afterwards
abbrev pub parsed_words : Parsed → List ℕ
parsed_words r = found_words r.found ++ (r.position ∷ [])

-- why a listing stopped: 0 the end, 1 the budget, 2 a refusal, 3 no room, with its number
abbrev pub stop_words : Stopped → List ℕ
stop_words (Ok stop.End) = 0 ∷ 0 ∷ 0 ∷ 0 ∷ 0 ∷ []
stop_words (Ok stop.Budget) = 1 ∷ 0 ∷ 0 ∷ 0 ∷ 0 ∷ []
stop_words (Err e) = refused_words e.refusal e.place
stop_words (Ok stop.Full) = 3 ∷ list_full ∷ 0 ∷ 0 ∷ 0 ∷ []

-- why it stopped, how many tokens it handed out, and the position
abbrev pub listed_words : Listed → List ℕ
listed_words r = stop_words r.stop ++ (r.count ∷ r.position ∷ [])

-- 1 and the position past a form; or 2 and a refusal, with its number and its place
abbrev pub folded_words : Folded → List ℕ
folded_words (Err (error.Refused e)) = refused_words e.refusal e.place
folded_words (Err (error.TooDeep p)) = 2 ∷ too_deep_number ∷ p ∷ 0 ∷ 0 ∷ []
folded_words (Err (error.Unclosed p)) = 2 ∷ unclosed ∷ p ∷ 0 ∷ 0 ∷ []
folded_words (Ok at) = 1 ∷ at ∷ 0 ∷ 0 ∷ 0 ∷ []
