-- Same tail, same reading: what a tail of a text is read as by itself, it is read as in the text, counted from the text's
-- start. Assumes nothing.
use Prim.Native.Nat.{ℕ, ◌+◌, ◌*◌}
use mathlib.Core.Path.{◌≡◌, refl, subst}
use mathlib.Core.List.{List, ◌++◌}
use native.Mathlib.Omega.{arith}
use lib.ListN.{length, drop, length-append}
use lib.Seq.{drop-append-add}
use Rattle.std.specs.Prelude.{Some, None, Ok, Err}
use Rattle.wat.specs.declared.{Settings.Settings, Parsed.Parsed, Listed.Listed}
use Rattle.wat.specs.Answers.{Answer}
use Rattle.wat.specs.declared.Refusal.TheVariants.{Lexical}
use Rattle.wat.specs.Stopped.{Stopped}
use Rattle.wat.specs.Stopped as stop
use Rattle.wat.specs.Lexing.{Lexed}
use Rattle.wat.specs.Calls.{Text, Stands, at, Parses}
use Rattle.wat.specs.Division.{Piece, Walked, record_size, records, Stops, Listing}
use Rattle.wat_laws.specs.Windows.{moved_parsed, moved_stop, moved_listed}
use Rattle.wat_laws.proofs.OneCall.{stands_or_rejected}

at_moved : (n pos : ℕ) (a : Answer) → at (n + pos) a ≡ moved_parsed n (at pos a)
at_moved n pos (Ok None) = refl
at_moved n pos (Ok (Some l)) = let q : n + pos + l.len ≡ n + (pos + l.len) = omega arith in cc
at_moved n pos (Err f) =
    let p : n + pos + f.place ≡ n + (pos + f.place) = omega arith in
    let q : n + pos + f.after ≡ n + (pos + f.after) = omega arith in
    cc

module _ (before tail : List ℕ) (whole : Text (before ++ tail)) where
  left : (pos : ℕ) → drop (length before + pos) (before ++ tail) ≡ drop pos tail
  left pos = drop-append-add before tail pos

  pub tail_stands : {pos : ℕ} → Stands tail pos → Stands (before ++ tail) (length before + pos)
  tail_stands {pos} s =
      record { sound = whole; within = omega (arith, s.within, length-append before tail); between = rw (left pos) s.between }

  pub tail_lexed : {σ : Settings} (pos : ℕ) {a : Answer} → Lexed σ (drop pos tail) a
      → Lexed σ (drop (length before + pos) (before ++ tail)) a
  tail_lexed pos l = rw (left pos) l

  pub tail_parses : {σ : Settings} {pos : ℕ} {r : Parsed} → Stands tail pos → Parses σ tail pos r
      → Parses σ (before ++ tail) (length before + pos) (moved_parsed (length before) r)
  tail_parses s (Parses.rejected t) = absurd (stands_or_rejected s t)
  tail_parses {σ} {pos} s (Parses.lexes {a = a} s' l) =
      subst (λ (r : Parsed). Parses σ (before ++ tail) (length before + pos) r) (at_moved (length before) pos a)
      (Parses.lexes (tail_stands s) (tail_lexed pos l))

  pub tail_walked : {σ : Settings} {start end : ℕ} {ts : List Piece} → Walked σ tail start end ts
      → Walked σ (before ++ tail) (length before + start) (length before + end) ts
  tail_walked {start = start} {end = end} w =
      record { divided = rw (left start, left end) w.divided; place = omega (arith, w.place); stands = tail_stands w.stands }

  pub tail_listing : {σ : Settings} {start budget : ℕ} {list l : List ℕ} {r : Listed} → Stands tail start
      → Listing σ tail start budget list r l
      → Listing σ (before ++ tail) (length before + start) budget list (moved_listed (length before) r) l
  tail_listing s (Listing.rejected t) = absurd (stands_or_rejected s t)
  tail_listing {σ} {start} {budget} {list} s (Listing.lists {ts = ts} {at = end} {p = p} {why = why} s' w f g x) =
      subst (λ (y : List ℕ). Listing σ (before ++ tail) (length before + start) budget list
      (record { stop = moved_stop (length before) why; count = length ts; position = length before + p })
      (records y ts ++ drop (record_size * length ts) list)) (left start)
      (Listing.lists (tail_stands s) (tail_walked w) f g (stops x))
    where
      stops : {budget room n end p : ℕ} {why : Stopped} → Stops σ tail budget room n end why p
          → Stops σ (before ++ tail) budget room n (length before + end) (moved_stop (length before) why) (length before + p)
      stops (Stops.end e) = Stops.end (omega (arith, length-append before tail))
      stops (Stops.budget h e) = Stops.budget (omega (arith, length-append before tail)) e
      stops {budget} {room} {n} {end} (Stops.fault {f = f} h y) =
          let b = length before in
          let p : b + end + f.place ≡ b + (end + f.place) = omega arith in
          let q : b + end + f.after ≡ b + (end + f.after) = omega arith in
          let z : Stops σ (before ++ tail) budget room n (b + end)
          (stop.Refused (Lexical f.error) (b + end + f.place)) (b + end + f.after) =
          Stops.fault h (tail_lexed end y) in
          rw (p, q) at z
      stops {end = end} (Stops.full h i y) = Stops.full h i (tail_lexed end y)
