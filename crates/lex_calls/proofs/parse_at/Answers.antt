use Rattle.wat.specs.Calls.{Parses}
use Rattle.lex_calls.proofs.parse_at.Goals as goal

pub returns-in-Ok-None : goal.returns-in-Ok-None
returns-in-Ok-None c =
    rw (← c.text-text.ensures, ← c.at-pos.ensures.at)
    (Parses.lexes (rw (c.text-text.ensures, c.at-pos.ensures.at) c.at-pos.ensures.stands)
    (rw c.in-Ok-None.field-0-is at c.in-Ok-None.ensures))

pub returns-in-Ok-Some : goal.returns-in-Ok-Some
returns-in-Ok-Some c =
    rw (← c.text-text.ensures, ← c.at-pos.ensures.at)
    (Parses.lexes (rw (c.text-text.ensures, c.at-pos.ensures.at) c.at-pos.ensures.stands)
    (rw c.in-Ok-Some.field-0-is at c.in-Ok-Some.ensures))

pub returns-in-Err : goal.returns-in-Err
returns-in-Err c =
    rw (← c.text-text.ensures, ← c.at-pos.ensures.at)
    (Parses.lexes (rw (c.text-text.ensures, c.at-pos.ensures.at) c.at-pos.ensures.stands) c.in-Err.ensures)
