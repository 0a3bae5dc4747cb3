-- The position after a lexing error is a character boundary of the text, so that the next call is not refused there; and
-- 17 is placed at the end of the text. Assumes nothing.
use Prim.Native.Nat.{ℕ, zero, suc, ◌+◌, ◌≤◌}
use mathlib.Core.Path.{◌≡◌, refl}
use mathlib.Core.List.{List, [], ◌∷◌, ◌++◌, append_assoc}
use mathlib.Core.Bool.{Bool, true}
use native.Mathlib.Omega.{arith}
use lib.Dec.{ltb}
use lib.ListN.{length, drop, replicate, length-append, length-drop}
use lib.Seq.{drop-drop, drop-append_seam}
use borrow.Author.Tests.{lt-ltb, ltb-true}
use Rattle.wat.specs.declared.{Fault.Fault, LexError.LexError, Settings.Settings, Listed.Listed}
use Rattle.wat.specs.declared.LexError.TheVariants.{UnexpectedEof}
use Rattle.wat.specs.declared.Refusal.{Refusal}
use Rattle.wat.specs.declared.Refusal.TheVariants.{Lexical}
use Rattle.wat.specs.Answers as answer
use Rattle.wat.specs.Found as found
use Rattle.wat.specs.declared.Parsed.{Parsed}
use Rattle.wat.specs.Stopped.{Stopped}
use Rattle.wat.specs.Stopped as stop
use Rattle.wat.specs.Bytes.{bytes, Each}
use Rattle.wat.specs.Utf8.{scalar, WellFormed, empty}
use Rattle.wat.specs.Strings.{Hex, HexNum, escapes, Elem, Elems, Str}
use Rattle.wat.specs.StringFaults.{Awaits, Bad, BadStr}
use Rattle.wat.specs.Tokens.{Run}
use Rattle.wat.specs.Lexing.{Fails, Lexed}
use Rattle.wat.specs.Calls.{Stands, Rejected, Parses}
use Rattle.wat.specs.Division.{Stops, Listing}
use Rattle.wat.proofs.Basics.{differ, pairs_listed, refused_same}
use Rattle.wat.proofs.Scalars.{after, after_ascii}
use Rattle.wat.proofs.HexDigits.{hex_ascii}
use Rattle.wat.proofs.ElementReads.{Letter, letters}
use Rattle.wat.proofs.Shapes.{each_append}
use Rattle.wat.proofs.Runs.{idchar_ascii}
use Rattle.wat.proofs.Boundaries.{token_formed}

-- ---- what follows a part of a well-formed text is well formed

-- an ASCII byte
unfoldable low : ℕ → Bool
low x = ltb x 0x80

after_low : {p : List ℕ} (u : List ℕ) → Each low true p → WellFormed (p ++ u) → WellFormed u
unfolding low
after_low u Each.none g = g
after_low u (Each.next {x = x} {t = t} e l) g = after_low u l (after_ascii x (t ++ u) (ltb-true x 0x80 e) g)

low_hex : {d n : ℕ} → Hex d n → low d ≡ true
unfolding low
low_hex {d} h = lt-ltb d 0x80 (hex_ascii h)

low_underscores : (k : ℕ) → Each low true (replicate k 0x5F)
unfolding low
low_underscores zero = Each.none
low_underscores (suc k) = Each.next refl (low_underscores k)

low_number : {σ : Settings} {ds : List ℕ} {n : ℕ} → HexNum σ ds n → Each low true ds
low_number (HexNum.one h) = Each.next (low_hex h) Each.none
low_number (HexNum.more k g r h) = each_append (low_number r) (each_append (low_underscores k) (Each.next (low_hex h) Each.none))

-- `\u{` and what is ASCII behind it
low_opened : {ds : List ℕ} → Each low true ds → Each low true (bytes "\\u{" ++ ds)
unfolding low
low_opened l = Each.next refl (Each.next refl (Each.next refl l))

low_letter : (e v : ℕ) → Letter e v → low e ≡ true
unfolding low
low_letter e v l = l.2

low_escape : {s : List ℕ} → Each low true s → Each low true (0x5C ∷ s)
unfolding low
low_escape l = Each.next refl l

after_elem : {σ : Settings} {s v : List ℕ} (u : List ℕ) → Elem σ s v → WellFormed (s ++ u) → WellFormed u
unfolding low
after_elem u (Elem.raw {c = c} ch p q r h) g = after c u ch g
after_elem u (Elem.letter {e = e} {v = v} m) g =
    after_low u (low_escape (Each.next (low_letter e v (pairs_listed Letter escapes letters m)) Each.none)) g
after_elem u (Elem.pair h l) g = after_low u (low_escape (Each.next (low_hex h) (Each.next (low_hex l) Each.none))) g
after_elem u (Elem.unicode r ch) g = after_low u (low_opened (each_append (low_number r) (Each.next refl Each.none))) g

after_elems : {σ : Settings} {s v : List ℕ} (u : List ℕ) → Elems σ s v → WellFormed (s ++ u) → WellFormed u
after_elems u Elems.none g = g
after_elems u (Elems.next {s = s} {t = t} p r) g = after_elems u r (after_elem (t ++ u) p (rw (append_assoc s t u) at g))

after_run : {σ : Settings} {w : List ℕ} (u : List ℕ) → Run σ w → WellFormed (w ++ u) → WellFormed u
after_run u Run.none g = g
after_run u (Run.char {x = x} {t = t} e r) g = after_run u r (after_ascii x (t ++ u) (idchar_ascii x e) g)
after_run u (Run.string {t = t} (Str.quoted {s = s} q) r) g =
    let e : ((0x22 ∷ (s ++ (0x22 ∷ []))) ++ t) ++ u ≡ 0x22 ∷ (s ++ (0x22 ∷ (t ++ u))) = simp append_assoc in
    let h : WellFormed (0x22 ∷ (s ++ (0x22 ∷ (t ++ u)))) = rw (← e) g in
    after_run u r (after_ascii 0x22 (t ++ u) (omega arith)
    (after_elems (0x22 ∷ (t ++ u)) q (after_ascii 0x22 (s ++ (0x22 ∷ (t ++ u))) (omega arith) h)))

low_awaited : {σ : Settings} {p : List ℕ} {test : ℕ → Bool} {error : ℕ → LexError} → Awaits σ p test error → Each low true p
unfolding low
low_awaited Awaits.element = Each.none
low_awaited Awaits.escape = low_escape Each.none
low_awaited (Awaits.second h) = low_escape (Each.next (low_hex h) Each.none)
low_awaited Awaits.brace = low_escape (Each.next refl Each.none)
low_awaited Awaits.first = low_opened Each.none
low_awaited (Awaits.close r e) = low_opened (low_number r)

after_bad : {σ : Settings} {p c u : List ℕ} {e : LexError} → Bad σ p c u e → WellFormed (p ++ (c ++ u)) → WellFormed u
after_bad (Bad.other {at = c} {rest = u} a ch t) g = after c u ch (after_low (c ++ u) (low_awaited a) g)
after_bad (Bad.end a) g = empty
after_bad (Bad.big {rest = u} {d = d} k p r f h n) g =
    after_low u (Each.next (low_hex h) Each.none)
    (after_low (d ∷ u) (low_opened (each_append (low_number r) (low_underscores k))) g)
after_bad (Bad.lone {rest = u} k p r f n) g =
    after_low u (low_underscores 1) (after_low (0x5F ∷ u) (low_opened (each_append (low_number r) (low_underscores k))) g)
after_bad (Bad.double {rest = u} e r f) g =
    after_low u (low_underscores 1) (after_low (0x5F ∷ u) (low_opened (each_append (low_number r) (low_underscores 1))) g)
after_bad (Bad.value {ds = ds} {rest = u} {d = d} r f n e) g =
    after_low u (low_opened (low_number r)) (rw (append_assoc ds (d ∷ []) u) g)
after_bad (Bad.hidden {at = c} {rest = u} ch e f) g = after c u ch g

-- ---- after a fault

-- it is within the text, and what is left there is well formed
abbrev Goes : List ℕ → ℕ → Type 0
Goes s n = (n ≤ length s) × WellFormed (drop n s)

goes_behind : {n : ℕ} (w u : List ℕ) → n ≡ length w → WellFormed u → Goes (w ++ u) n
goes_behind w u e g = rw (e, drop-append_seam w u) (omega (arith, length-append w u), g)

after_fault : {σ : Settings} {s : List ℕ} {f : Fault} → WellFormed s → Fails σ s f → Goes s f.after
after_fault g (Fails.dangling h) = (omega arith, g)
after_fault g (Fails.unexpected t ch h) = (omega arith, g)
after_fault g (Fails.comment t h c l p d e m) = (l.fits, (token_formed g l).1)
after_fault g (Fails.string {w = w} r (BadStr.quoted {b = b} {p = p} {c = c} {u = u} q x)) =
    let body = b ++ (p ++ (c ++ u)) in
    let rest = after_bad x (after_elems (p ++ (c ++ u)) q (after_ascii 0x22 body (omega arith) (after_run (0x22 ∷ body) r g))) in
    let front = w ++ (0x22 ∷ (b ++ (p ++ c))) in
    let seam : front ++ u ≡ w ++ (0x22 ∷ (b ++ (p ++ (c ++ u)))) = simp append_assoc in
    let long : length w + (1 + (length b + (length p + length c))) ≡ length (w ++ (0x22 ∷ (b ++ (p ++ c)))) =
    omega (arith, length-append w (0x22 ∷ (b ++ (p ++ c))), length-append b (p ++ c), length-append p c) in
    rw (← seam) (goes_behind front u long rest)

pub fault_stands : {σ : Settings} {text : List ℕ} {at : ℕ} {f : Fault} → Stands text at
    → Lexed σ (drop at text) (answer.Fault f)
    → Stands text (at + f.after)
fault_stands {text = text} {at = at} {f = f} s (Lexed.fails x) =
    let g = after_fault s.between x in
    record {
      sound = s.sound;
      within = omega (arith, g.0, length-drop at text, s.within);
      between = rw (drop-drop f.after at text) at g.1;
    }

-- ---- the same of the calls' answers

-- 1 to 4 are no errors of lexing
pub rejected_other : {text : List ℕ} {pos p : ℕ} {r : Refusal} {e : LexError} → Rejected text pos r p → r ≡ Lexical e → ⊥
rejected_other (Rejected.too_long h) q = differ (cc)
rejected_other (Rejected.not_utf8 h s) q = differ (cc)
rejected_other (Rejected.past_end t h) q = differ (cc)
rejected_other (Rejected.inside t h n) q = differ (cc)

pub parses_fault_stands : {σ : Settings} {text : List ℕ} {pos p : ℕ} {r : Parsed} {e : LexError} → Parses σ text pos r
    → r.found ≡ found.Refused (Lexical e) p → Stands text r.position
parses_fault_stands {e = e} (Parses.rejected t) q = absurd (rejected_other {e = e} t (refused_same q).0)
parses_fault_stands (Parses.lexes s (Lexed.end n)) q = differ (cc)
parses_fault_stands (Parses.lexes s (Lexed.token l n)) q = differ (cc)
parses_fault_stands (Parses.lexes s (Lexed.fails x)) q = fault_stands s (Lexed.fails x)

pub listing_fault_stands : {σ : Settings} {text : List ℕ} {start budget p : ℕ} {list l : List ℕ} {r : Listed} {e : LexError}
    → Listing σ text start budget list r l → r.stop ≡ stop.Refused (Lexical e) p → Stands text r.position
listing_fault_stands {e = e} (Listing.rejected t) q = absurd (rejected_other {e = e} t (refused_same q).0)
listing_fault_stands {σ} {text} {e = e} (Listing.lists s w f g x) q = stopped w.stands x q
  where
    stopped : {budget room n at p place : ℕ} {why : Stopped} → Stands text at → Stops σ text budget room n at why p
        → why ≡ stop.Refused (Lexical e) place → Stands text p
    stopped s (Stops.end e) q = differ (cc)
    stopped s (Stops.budget h e) q = differ (cc)
    stopped s (Stops.fault h x) q = fault_stands s x
    stopped s (Stops.full h i x) q = differ (cc)

-- ---- 17 stands at the end

awaited_error : {σ : Settings} {p : List ℕ} {test : ℕ → Bool} {error : ℕ → LexError} (n : ℕ) → Awaits σ p test error
    → error n ≡ UnexpectedEof → ⊥
awaited_error n Awaits.element q = differ (cc)
awaited_error n Awaits.escape q = differ (cc)
awaited_error n (Awaits.second h) q = differ (cc)
awaited_error n Awaits.brace q = differ (cc)
awaited_error n Awaits.first q = differ (cc)
awaited_error n (Awaits.close r e) q = differ (cc)

-- nothing is consumed there, and nothing is left
eof_last : {σ : Settings} {p c u : List ℕ} {e : LexError} → Bad σ p c u e → e ≡ UnexpectedEof → length (c ++ u) ≡ 0
eof_last (Bad.other {at = c} a ch t) q = absurd (awaited_error (scalar c) a q)
eof_last (Bad.end a) q = refl
eof_last (Bad.big k p r f h n) q = differ (cc)
eof_last (Bad.lone k p r f n) q = differ (cc)
eof_last (Bad.double e r f) q = differ (cc)
eof_last (Bad.value r f n e) q = differ (cc)
eof_last (Bad.hidden ch e f) q = differ (cc)

pub eof_at_end : {σ : Settings} {s : List ℕ} {f : Fault} → Lexed σ s (answer.Fault f) → f.error ≡ UnexpectedEof
    → (f.place ≡ length s) × (f.after ≡ length s)
eof_at_end (Lexed.fails (Fails.dangling h)) q = differ (cc)
eof_at_end (Lexed.fails (Fails.unexpected t ch h)) q = differ (cc)
eof_at_end (Lexed.fails (Fails.comment t h c l p d e m)) q = differ (cc)
eof_at_end (Lexed.fails (Fails.string {w = w} r (BadStr.quoted {b = b} {p = p} {c = c} {u = u} e x))) q =
    let none = eof_last x q in
    let long : length (w ++ (0x22 ∷ (b ++ (p ++ (c ++ u))))) ≡ length w + (1 + (length b + length p)) =
    omega (arith, length-append w (0x22 ∷ (b ++ (p ++ (c ++ u)))), length-append b (p ++ (c ++ u)), length-append p (c ++ u)) in
    (omega arith, omega (arith, length-append c u))
