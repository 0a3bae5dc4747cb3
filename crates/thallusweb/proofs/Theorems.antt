-- What is proved, on one page: the theorems that a user relies on, as they are stated where they are proved. That the code
-- gives the answers of which they speak is what the contracts of the public calls say (docs/PROMISES.md). Assumes nothing.
use Prim.Native.Nat.{ℕ, ◌+◌, ◌*◌, ◌-◌, ◌^◌, ◌≤◌, ◌<◌}
use mathlib.Core.Path.{◌≡◌}
use mathlib.Core.Bool.{Bool, true, false}
use mathlib.Core.List.{List, [], ◌∷◌, ◌++◌}
use lib.ListN.{length, take, drop, get_or}
use denote.Ref.{Bor}
use Rattle.std.specs.Prelude.{Option, Result}
use Rattle.wat.specs.declared.{TokenKind.TokenKind, Parsed.Parsed, Listed.Listed}
use Rattle.wat.specs.Answers.{Answer}
use Rattle.wat.specs.Checked.{Checked}
use Rattle.wat.specs.declared.{Refusal.Refusal, Token.Token, Settings.Settings}
use Rattle.wat.specs.declared.{Fault.Fault, LexError.TheVariants.UnexpectedEof, LexError.TheVariants.DoubleUnderscore}
use Rattle.wat.specs.declared.Refusal.TheVariants.{Lexical}
use Rattle.wat.specs.Found.{Found}
use Rattle.wat.specs.Found as found
use Rattle.wat.specs.Answers as answer
use Rattle.wat.specs.Stopped as stop
use Rattle.wat_values.specs.IntegerSign.{IntegerSign}
use Rattle.wat_values.specs.{Answered.Reading, Named.NameReading}
use Rattle.wat_values.specs.IntegerValue.{IntegerValue}
use Rattle.wat_values.specs.FloatSign.{FloatSign}
use Rattle.wat_forms.specs.Folded.{Folded}
use Rattle.wat_forms.specs.Folded as folded
use Rattle.place.specs.declared.Place.{Place}
use Rattle.wat.specs.Settings.{lenient}
use Rattle.wat.specs.Utf8.{WellFormed, Says}
use Rattle.wat.specs.Strings.{HexNum, Elem}
use Rattle.wat.specs.Tokens.{Tok}
use Rattle.wat.specs.Lexing.{Lexed}
use Rattle.wat.specs.Calls.{Stands, Parses, Annotates, at}
use Rattle.wat.specs.Division.{Piece, lengths, Divided, Walked, record_size, records, Listing}
use Rattle.wat.specs.LexModel.{lex}
use Rattle.wat_values.specs.Values.{Reader, Value, Reads}
use Rattle.wat_values.specs.Reading.{There, Read, ReadsName, Second, ReadsSign, ReadsNegative}
use Rattle.wat_values.specs.Integers.{ReadsWord}
use Rattle.wat_forms.specs.Forms.{Folds}
use Rattle.wat_forms.specs.Balance.{WholeForm, Structural}
use Rattle.wat_forms.specs.Windows.{DecidedFold, MovedFold}
use Rattle.read_second.specs.Parts.{PartFor}
use Rattle.messages.specs.Messages.{Tells}
use Rattle.wat_lines.specs.LineEnds.{line_ends, ends_in_return}
use Rattle.wat_lines.specs.Newlines.{Newlines}
use Rattle.place.specs.Places.{Moved, Moves}
use Rattle.place.specs.Places as counter
use Rattle.place.specs.Pieces.{InTwo}
use Rattle.c_spots.specs.Spots.{MovedWords}
use Rattle.c_words.specs.Words.{folded_words}
use Rattle.c_read_words.specs.Words.{name_words, integer_words}
use Rattle.wat.proofs.OneKind as kinds
use Rattle.wat.proofs.Unique as unique
use Rattle.wat.proofs.Utf8Laws as utf8
use Rattle.wat.proofs.StandardStrings as standard
use Rattle.wat.proofs.StandardStrings.{Hexnum, Stringelem}
use Rattle.wat_laws.proofs.Total as total
use Rattle.wat_laws.proofs.Answers as answers
use Rattle.wat_laws.proofs.OneCall as calls
use Rattle.wat.specs.Whole.{Division, Whole}
use Rattle.wat_laws.proofs.Divisions as divisions
use Rattle.wat_laws.proofs.Listings as listings
use Rattle.wat_values.specs.Readable.{Passes}
use Rattle.wat_laws.specs.Looser.{Looser, unstrict}
use Rattle.wat_laws.specs.Windows.{Paused, Decided, DecidedStop, moved_parsed, moved_listed}
use Rattle.thallusweb.specs.Promises.{ListedWords}
use Rattle.thallusweb.specs.ReadableWords.{PassesWords}
use Rattle.wat_laws.proofs.ListingRoom as room
use Rattle.wat_laws.proofs.ListingCompose as compose
use Rattle.wat_laws.proofs.RecordLaws as decoded
use Rattle.wat_laws.proofs.FaultPlaces as places
use Rattle.wat_laws.proofs.StrictCalls as strict
use Rattle.wat_laws.proofs.Slices as slices
use Rattle.thallusweb.proofs.PassWords as words
use Rattle.wat_values.proofs.Readable as readable
use Rattle.wat_values.proofs.HandedOut as handed
use Rattle.wat_values.proofs.OneValue as values
use Rattle.wat_values.proofs.OneReading as reading
use Rattle.wat_values.proofs.IntegerLaws as integers
use Rattle.read_second.proofs.PartLaws as part
use Rattle.messages.proofs.OneMessage as message
use Rattle.place.proofs.OnePlace as place
use Rattle.place.proofs.PieceLaws as two
use Rattle.wat_lines.proofs.LineLaws as lines
use Rattle.c_spots.proofs.SpotLaws as spots
use Rattle.wat_forms.proofs.FoldLaws as folding
use Rattle.wat_forms.proofs.InnerForms as inner
use Rattle.wat_forms.proofs.StrictFolds as strict_forms
use Rattle.wat_forms.proofs.FoldWindows as pieces
use Rattle.c_words.proofs.FoldTell as told
use Rattle.c_read_words.proofs.TellLaws as tell

-- ---- what passes can be read

-- For callers from C: where `thallusweb_list` from 0 leaves 0 in out[0], each record of its list, decoded and handed to
-- `thallusweb_read` or `thallusweb_name` with a buffer no shorter than the token, and that answer to `thallusweb_part`, gives the
-- token's one value, with a name its kind, and the sign calls give its sign. Only a name that is empty or not UTF-8 is refused. The
-- value calls of an integer give its word, or 40 where it is out of range.
pub passes_words : {σ : Settings} {text list out l : List ℕ} {budget : ℕ} → ListedWords σ text 0 budget list out l
    → get_or out 0 0 ≡ 0 → PassesWords σ text out l
passes_words x e = words.passes_words x e

-- A text that the listing carries from byte 0 to its end is divided in one way only, and each of its tokens, read there or
-- alone with a buffer no shorter than itself, yields its one value, with a name whose it is, and its sign to the sign call. Only a
-- name that is empty or not UTF-8 is refused. The value call of an integer yields its word, or 40 where it is out of range.
pub passes_readable : {σ : Settings} {text : List ℕ} {budget : ℕ} {list l : List ℕ} {r : Listed}
    → Listing σ text 0 budget list r l → r.stop ≡ stop.End → Passes σ text list r l
passes_readable x e = readable.passes_readable x e

-- Its tokens are that division, as many as were counted, and the list has their records.
pub listed_whole : {σ : Settings} {text : List ℕ} {budget : ℕ} {list l : List ℕ} {r : Listed}
    → Listing σ text 0 budget list r l → r.stop ≡ stop.End → Whole σ text list r l
listed_whole x e = listings.listed_whole x e

-- Every byte belongs to a token, none is empty, each is the longest, and no other tokens divide the text.
pub one_division : {σ : Settings} {s : List ℕ} {ts : List Piece} → Divided σ s ts [] → Division σ s ts
one_division d = divisions.one_division d

-- ---- listings

-- With a budget and room for each byte that is left, a listing stops at the end or at a refusal, never by the budget or 33.
pub room_enough : {σ : Settings} {text : List ℕ} {start budget : ℕ} {list l : List ℕ} {r : Listed}
    → Listing σ text start budget list r l → length text - start ≤ budget
    → record_size * (length text - start) ≤ length list → (r.stop ≡ stop.Budget → ⊥) × (r.stop ≡ stop.Full → ⊥)
room_enough x b m = room.room_enough x b m

-- Stopped by the budget or by 33 and asked again at its position, the tokens together are those of one listing.
pub listings_compose : {σ : Settings} {text : List ℕ} {start b b' : ℕ} {list list' l l' : List ℕ} {r r' : Listed}
    (front : List ℕ) → Listing σ text start b list r l → Paused r.stop → Listing σ text r.position b' list' r' l'
    → length front ≡ record_size * r.count
    → Listing σ text start (r.count + b') (front ++ list')
    (record { stop = r'.stop; count = r.count + r'.count; position = r'.position }) (take (record_size * r.count) l ++ l')
listings_compose front x p y e = compose.listings_compose front x p y e

-- The records of a list determine its tokens.
pub records_one : (s s' : List ℕ) (ts us : List Piece) → lengths ts < 2 ^ 32 → lengths us < 2 ^ 32
    → records s ts ≡ records s' us → ts ≡ us
records_one s s' ts us h k e = decoded.records_one s s' ts us h k e

-- The position after 10 to 21 and 25 is a character boundary of the text, so that the next call is not refused by 3 or 4.
pub fault_stands : {σ : Settings} {text : List ℕ} {at : ℕ} {f : Fault} → Stands text at
    → Lexed σ (drop at text) (answer.Fault f) → Stands text (at + f.after)
fault_stands s l = places.fault_stands s l

-- 17 stands at the text's end.
pub eof_at_end : {σ : Settings} {s : List ℕ} {f : Fault} → Lexed σ s (answer.Fault f) → f.error ≡ UnexpectedEof
    → (f.place ≡ length s) × (f.after ≡ length s)
eof_at_end l e = places.eof_at_end l e

-- ---- forms

-- A form that folds is the tokens of the division from its start up to its closing; its parentheses balance; and an opening
-- that is met on the way begins a form that folds too, and ends inside.
pub folds_whole : {σ : Settings} {text : List ℕ} {start end : ℕ} → Folds σ text start (folded.Past end)
    → WholeForm σ text start end
folds_whole f = inner.folds_whole f

-- What folds under some settings folds to the same place with everything allowed.
pub folds_lenient : {σ : Settings} {text : List ℕ} {start end : ℕ} → Folds σ text start (folded.Past end)
    → Folds lenient text start (folded.Past end)
folds_lenient f = inner.folds_lenient f

-- In a text that is divided to its end, folding at a place between its tokens answers no error of lexing: the end of a form, 31,
-- 41 or 42.
pub folds_listed : {σ : Settings} {text : List ℕ} {pos : ℕ} {ts us : List Piece} {a : Folded} → Divided σ text ts []
    → Walked σ text 0 pos us → Folds σ text pos a → Structural a
folds_listed d u f = inner.folds_listed d u f

-- ---- windows

-- What `parse` answers for a piece of a text it answers for the text, places moved by what stands before the piece, where the
-- piece decides it: a token that ends before the piece does, or an error other than 10 that leaves the position there.
pub slice_parses : (before piece rest : List ℕ) {σ : Settings} {pos : ℕ} {r : Parsed}
    → Stands (before ++ (piece ++ rest)) (length before) → Parses σ piece pos r → Decided piece r.found r.position
    → Parses σ (before ++ (piece ++ rest)) (length before + pos) (moved_parsed (length before) r)
slice_parses before piece rest s x d = slices.slice_parses before piece rest s x d

-- So it is with the listing that such an error or the budget stops,
pub slice_listing : (before piece rest : List ℕ) {σ : Settings} {start budget : ℕ} {list l : List ℕ} {r : Listed}
    → Stands (before ++ (piece ++ rest)) (length before) → Listing σ piece start budget list r l
    → DecidedStop piece r.stop r.position
    → Listing σ (before ++ (piece ++ rest)) (length before + start) budget list (moved_listed (length before) r) l
slice_listing before piece rest s x d = slices.slice_listing before piece rest s x d

-- and with every token of a walk that ends before the piece does.
pub slice_walked : (before piece rest : List ℕ) {σ : Settings} {start at : ℕ} {ts : List Piece}
    → Stands (before ++ (piece ++ rest)) (length before) → Walked σ piece start at ts → at < length piece
    → Walked σ (before ++ (piece ++ rest)) (length before + start) (length before + at) ts
slice_walked before piece rest s w h = slices.slice_walked before piece rest s w h

-- A form that ends in the piece ends there in the text, also where the piece has no more bytes; 31 and 41 stand if a byte
-- follows what they were told by, and other errors than 10 and 21 if more than a character is left from their place on.
pub slice_folds : (before piece rest : List ℕ) {σ : Settings} {pos : ℕ} {a : Folded}
    → Stands (before ++ (piece ++ rest)) (length before) → DecidedFold piece pos a → Folds σ piece pos a
    → (b : Folded) × MovedFold (length before) a b × Folds σ (before ++ (piece ++ rest)) (length before + pos) b
slice_folds before piece rest s d f = pieces.slice_folds before piece rest s d f

-- ---- one token

-- What is left of a text has one answer,
pub lexed_one : {σ : Settings} {s : List ℕ} {r r' : Answer} → Lexed σ s r → Lexed σ s r' → r ≡ r'
lexed_one a b = unique.lexed_one a b

-- and has one wherever it is UTF-8: the one that the model computes.
pub lexed : (σ : Settings) {s : List ℕ} → WellFormed s → Lexed σ s (lex σ s)
lexed σ w = total.lexed σ w

-- The same bytes are a token of one kind.
pub one_kind : {k j : TokenKind} {w : List ℕ} → Tok k w → Tok j w → k ≡ j
one_kind p q = kinds.one_kind p q

-- What is a token under some settings is the same token under looser ones, and so
pub lexed_looser : {σ τ : Settings} {s : List ℕ} {k : TokenKind} {n : ℕ} → Looser σ τ → WellFormed s
    → Lexed σ s (answer.Token k n) → Lexed τ s (answer.Token k n)
lexed_looser o w l = answers.lexed_looser o w l

-- with everything allowed, as readers lex: with confusing characters, and without strict digits;
pub lexed_lenient : {σ : Settings} {s : List ℕ} {k : TokenKind} {n : ℕ} → WellFormed s
    → Lexed σ s (answer.Token k n) → Lexed lenient s (answer.Token k n)
lexed_lenient w l = answers.lexed_lenient w l

-- and the token's bytes, lexed alone, give the same token.
pub lexed_alone : {σ : Settings} {s : List ℕ} {k : TokenKind} {n : ℕ} → WellFormed s
    → Lexed σ s (answer.Token k n) → Lexed σ (take n s) (answer.Token k n)
lexed_alone w l = answers.lexed_alone w l

-- Where two texts have the same rest, they have the same answer there.
pub same_rest : (σ : Settings) {x y : List ℕ} {p q : ℕ} → Stands x p → Stands y q → drop p x ≡ drop q y
    → (a : Answer) × Parses σ x p (at p a) × Parses σ y q (at q a)
same_rest σ s t e = calls.same_rest σ s t e

-- ---- strict digits

-- With strict digits the number of a `\u{..}` is the standard's hexnum: there is no other,
pub hexnum_standard : {σ : Settings} {ds : List ℕ} {n : ℕ} → σ.strict_digits ≡ true → HexNum σ ds n → Hexnum ds n
hexnum_standard e r = standard.hexnum_standard e r

-- and each is one, without them too.
pub standard_hexnum : {σ : Settings} {ds : List ℕ} {n : ℕ} → Hexnum ds n → HexNum σ ds n
standard_hexnum r = standard.standard_hexnum r

-- So is an element of a string with the standard's, where confusing characters are allowed.
pub strict_standard : {σ : Settings} {s v : List ℕ} → σ.strict_digits ≡ true → Elem σ s v → Stringelem s v
strict_standard e x = standard.strict_standard e x

pub standard_element : {σ : Settings} {s v : List ℕ} → σ.allow_confusing ≡ true → Stringelem s v → Elem σ s v
standard_element e x = standard.standard_element e x

-- A token that a call hands out, with them or without, is there for the readers, who lex without them: they do not refuse it by 30.
pub parses_there : {σ : Settings} {text : List ℕ} {pos : ℕ} {r : Parsed} {t : Token} → Parses σ text pos r
    → r.found ≡ found.Token t → There text t
parses_there x e = handed.parses_there x e

pub annotates_there : {σ : Settings} {text : List ℕ} {pos : ℕ} {r : Found} {t : Token} → Annotates σ text pos r
    → r ≡ found.Token t → There text t
annotates_there x e = handed.annotates_there x e

-- They decide this one point: what a call answers with them, if it is not 25, it answers without them.
pub parses_unstrict : {σ : Settings} {text : List ℕ} {pos : ℕ} {r : Parsed} → Parses σ text pos r
    → ((p : ℕ) → r.found ≡ found.Refused (Lexical DoubleUnderscore) p → ⊥) → Parses (unstrict σ) text pos r
parses_unstrict x n = strict.parses_unstrict x n

pub annotates_unstrict : {σ : Settings} {text : List ℕ} {pos : ℕ} {r : Found} → Annotates σ text pos r
    → ((p : ℕ) → r ≡ found.Refused (Lexical DoubleUnderscore) p → ⊥) → Annotates (unstrict σ) text pos r
annotates_unstrict x n = strict.annotates_unstrict x n

pub listing_unstrict : {σ : Settings} {text : List ℕ} {start budget : ℕ} {list l : List ℕ} {r : Listed}
    → Listing σ text start budget list r l → ((p : ℕ) → r.stop ≡ stop.Refused (Lexical DoubleUnderscore) p → ⊥)
    → Listing (unstrict σ) text start budget list r l
listing_unstrict x n = strict.listing_unstrict x n

pub folds_unstrict : {σ : Settings} {text : List ℕ} {pos : ℕ} {a : Folded} → Folds σ text pos a
    → ((p : ℕ) → a ≡ folded.Refused (Lexical DoubleUnderscore) p → ⊥) → Folds (unstrict σ) text pos a
folds_unstrict x n = strict_forms.folds_unstrict x n

-- ---- each call has one answer, lent bytes included

pub says_one : (s : List ℕ) (r q : Checked) → Says s r → Says s q → r ≡ q
says_one s r q a b = utf8.says_one s r q a b

pub parses_one : {σ : Settings} {text : List ℕ} {pos : ℕ} {a b : Parsed} → Parses σ text pos a → Parses σ text pos b → a ≡ b
parses_one a b = calls.parses_one a b

pub annotates_one : {σ : Settings} {text : List ℕ} {pos : ℕ} {a b : Found}
    → Annotates σ text pos a → Annotates σ text pos b → a ≡ b
annotates_one a b = calls.annotates_one a b

pub listing_one : {σ : Settings} {text : List ℕ} {start budget : ℕ} {list l l' : List ℕ} {r r' : Listed}
    → Listing σ text start budget list r l → Listing σ text start budget list r' l' → (r ≡ r') × (l ≡ l')
listing_one a b = listings.listing_one a b

pub folds_one : {σ : Settings} {text : List ℕ} {pos : ℕ} {a b : Folded} → Folds σ text pos a → Folds σ text pos b → a ≡ b
folds_one a b = folding.folds_one a b

-- For callers from C: its words tell the answer, so that 41 and 42 are no refusal's numbers.
pub folded_words_tell : (a b : Folded) → folded_words a ≡ folded_words b → a ≡ b
folded_words_tell a b e = told.folded_words_tell a b e

pub reads_one : {r : Reader} {k : TokenKind} {w : List ℕ} {v v' : Value} → Reads r k w v → Reads r k w v' → v ≡ v'
reads_one a b = values.reads_one a b

pub read_one : {reader : Reader} {text buffer b b' : List ℕ} {token : Token} {a a' : Reading}
    → Read reader text token buffer a b → Read reader text token buffer a' b' → (a ≡ a') × (b ≡ b')
read_one x y = reading.read_one x y

-- An answer with the other token's kind is a second one, and so is refused.
pub reads_name_one : {text buffer b b' : List ℕ} {token : Token} {a a' : NameReading}
    → ReadsName text token buffer a b → ReadsName text token buffer a' b' → (a ≡ a') × (b ≡ b')
reads_name_one x y = reading.reads_name_one x y

-- For callers from C: its words tell the answer.
pub name_words_tell : (a b : NameReading) → name_words a ≡ name_words b → a ≡ b
name_words_tell a b e = tell.name_words_tell a b e

pub second_one : {text buffer v w : List ℕ} {a : Reading} → Second text buffer a v → Second text buffer a w → v ≡ w
second_one x y = reading.second_one x y

-- The second call returns one part: at one address, with the same bytes. Code can tell nothing else of a slice.
pub part_one : {text buffer r r' : Bor (List ℕ)} {a : Reading} → PartFor text buffer a r → PartFor text buffer a r'
    → (r.ref_ptr ≡ r'.ref_ptr) × (r.now ≡ r'.now)
part_one x y = part.part_one x y

pub reads_sign_one : {text : List ℕ} {token : Token} {a b : IntegerSign}
    → ReadsSign text token a → ReadsSign text token b → a ≡ b
reads_sign_one x y = reading.reads_sign_one x y

pub reads_word_one : {N : ℕ} {text : List ℕ} {token : Token} {a b : IntegerValue}
    → ReadsWord N text token a → ReadsWord N text token b → a ≡ b
reads_word_one x y = integers.reads_word_one x y

-- For callers from C: its words tell the answer, so that 40 is no refusal's number.
pub integer_words_tell : (a b : IntegerValue) → integer_words a ≡ integer_words b → a ≡ b
integer_words_tell a b e = tell.integer_words_tell a b e

pub reads_negative_one : {text : List ℕ} {token : Token} {a b : FloatSign}
    → ReadsNegative text token a → ReadsNegative text token b → a ≡ b
reads_negative_one x y = reading.reads_negative_one x y

pub tells_one : {r : Refusal} {buffer b b' : List ℕ} {a a' : Result ℕ Refusal} → Tells r buffer a b → Tells r buffer a' b'
    → (a ≡ a') × (b ≡ b')
tells_one x y = message.tells_one x y

pub moves_one : {from : Place} {w : List ℕ} {a b : Moved} → Moves from w a → Moves from w b → a ≡ b
moves_one x y = place.moves_one x y

-- and by its place alone, which is what `place::move_over` answers
pub move_one : {from : Place} {w : List ℕ} {a b : Option Place} → Moves from w (counter.answer from a)
    → Moves from w (counter.answer from b) → a ≡ b
move_one x y = place.move_one x y

-- ---- lines and columns

-- Line ends are the standard's newlines, read from left to right, each as long as the bytes allow; after a CR, those that it and
-- the bytes have, but for its own.
pub ends_read : (w : List ℕ) → Newlines w (line_ends false w)
ends_read w = lines.ends_read w

pub ends_read_on : (w : List ℕ) → Newlines (0x0D ∷ w) (1 + line_ends true w)
ends_read_on w = lines.ends_read_on w

pub newlines_ends : {w : List ℕ} {n : ℕ} → Newlines w n → n ≡ line_ends false w
newlines_ends r = lines.newlines_ends r

-- They may be counted piece by piece.
pub ends_append : (cr : Bool) (u v : List ℕ) → line_ends cr (u ++ v) ≡ line_ends cr u + line_ends (ends_in_return cr u) v
ends_append cr u v = lines.ends_append cr u v

-- A move over bytes is one over their front and then one over the rest, wherever they are cut; and so it is for callers from C.
pub moves_compose : {p : Place} {u v : List ℕ} {m : Moved} → InTwo p u v m → Moves p (u ++ v) m
moves_compose t = two.moves_compose t

pub moves_cut : {p : Place} (u v : List ℕ) {m : Moved} → Moves p (u ++ v) m → InTwo p u v m
moves_cut u v a = two.moves_cut u v a

pub moved_words_compose : {place u v p q : List ℕ} {b : Bool} → MovedWords place u true p → MovedWords p v b q
    → MovedWords place (u ++ v) b (elim b [ true ↦ q | false ↦ place ])
moved_words_compose x y = spots.moved_words_compose x y

pub moved_words_stop : {place u p : List ℕ} (v : List ℕ) → MovedWords place u false p → MovedWords place (u ++ v) false place
moved_words_stop v x = spots.moved_words_stop v x
