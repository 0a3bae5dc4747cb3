-- The calls with strict digits: an answer that is not 25 is the answer without them. Assumes nothing.
use Prim.Native.Nat.{ℕ}
use mathlib.Core.Path.{◌≡◌}
use mathlib.Core.List.{List}
use lib.ListN.{drop}
use Rattle.std.specs.Prelude.{Some, None, Ok, Err}
use Rattle.wat.specs.declared.{Settings.Settings, Parsed.Parsed, Listed.Listed, LexError.LexError}
use Rattle.wat.specs.Answers.{Answer}
use Rattle.wat.specs.declared.LexError.TheVariants.{DoubleUnderscore}
use Rattle.wat.specs.declared.Refusal.TheVariants.{Lexical}
use Rattle.wat.specs.Found.{Found}
use Rattle.wat.specs.Stopped.{Stopped}
use Rattle.wat.specs.Found as found
use Rattle.wat.specs.Stopped as stop
use Rattle.wat.specs.Utf8.{WellFormed}
use Rattle.wat.specs.Calls.{at, Parses, Annotates}
use Rattle.wat.specs.Division.{Stops, Listing}
use Rattle.wat_laws.specs.Looser.{unstrict, NotDouble}
use Rattle.wat_laws.proofs.SettingLaws.{looser_unstrict, not_double}
use Rattle.wat_laws.proofs.Answers.{lexed_looser, lexed_unstrict}
use Rattle.wat_laws.proofs.Walks.{walked_looser}
use Rattle.wat_laws.proofs.OneCall.{sign_stands}

-- ---- one token, and annotations

pub parses_unstrict : {σ : Settings} {text : List ℕ} {pos : ℕ} {r : Parsed} → Parses σ text pos r
    → ((p : ℕ) → r.found ≡ found.Refused (Lexical DoubleUnderscore) p → ⊥) → Parses (unstrict σ) text pos r
parses_unstrict (Parses.rejected t) n = Parses.rejected t
parses_unstrict {pos = pos} (Parses.lexes {a = a} s l) n = Parses.lexes s (lexed_unstrict s.between l (other a n))
  where
    other : (a : Answer) → ((p : ℕ) → (at pos a).found ≡ found.Refused (Lexical DoubleUnderscore) p → ⊥) → NotDouble a
    other (Ok None) n = tt
    other (Ok (Some l)) n = tt
    other (Err f) n = not_double (λ (x : LexError) (p : ℕ). found.Refused (Lexical x) p) f pos n

pub annotates_unstrict : {σ : Settings} {text : List ℕ} {pos : ℕ} {r : Found} → Annotates σ text pos r
    → ((p : ℕ) → r ≡ found.Refused (Lexical DoubleUnderscore) p → ⊥) → Annotates (unstrict σ) text pos r
annotates_unstrict (Annotates.too_long h) n = Annotates.too_long h
annotates_unstrict (Annotates.not_utf8 h s) n = Annotates.not_utf8 h s
annotates_unstrict (Annotates.elsewhere t h) n = Annotates.elsewhere t h
annotates_unstrict {σ} {text} {pos} (Annotates.hands_out t g l) n =
    Annotates.hands_out t g (lexed_looser (looser_unstrict σ) (sign_stands text pos t g).between l)
annotates_unstrict {σ} {text} {pos} (Annotates.other t g k l) n =
    Annotates.other t g k (lexed_looser (looser_unstrict σ) (sign_stands text pos t g).between l)
annotates_unstrict {σ} {text} {pos} (Annotates.fault {f = f} t g l) n =
    Annotates.fault t g (lexed_unstrict (sign_stands text pos t g).between l
    (not_double (λ (x : LexError) (p : ℕ). found.Refused (Lexical x) p) f pos n))

-- ---- the listing

stops_unstrict : {σ : Settings} {text : List ℕ} {budget room n at p : ℕ} {why : Stopped} → WellFormed (drop at text)
    → Stops σ text budget room n at why p
    → ((q : ℕ) → why ≡ stop.Refused (Lexical DoubleUnderscore) q → ⊥) → Stops (unstrict σ) text budget room n at why p
stops_unstrict g (Stops.end e) m = Stops.end e
stops_unstrict g (Stops.budget h e) m = Stops.budget h e
stops_unstrict {at = at} g (Stops.fault {f = f} h l) m =
    Stops.fault h (lexed_unstrict g l (not_double (λ (x : LexError) (p : ℕ). stop.Refused (Lexical x) p) f at m))
stops_unstrict {σ} g (Stops.full h i l) m = Stops.full h i (lexed_looser (looser_unstrict σ) g l)

pub listing_unstrict : {σ : Settings} {text : List ℕ} {start budget : ℕ} {list l : List ℕ} {r : Listed}
    → Listing σ text start budget list r l → ((p : ℕ) → r.stop ≡ stop.Refused (Lexical DoubleUnderscore) p → ⊥)
    → Listing (unstrict σ) text start budget list r l
listing_unstrict (Listing.rejected t) n = Listing.rejected t
listing_unstrict {σ} (Listing.lists s w b c x) n =
    Listing.lists s (walked_looser (looser_unstrict σ) s.between w) b c (stops_unstrict w.stands.between x n)
