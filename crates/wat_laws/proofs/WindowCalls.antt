-- The window over the calls: where `parse`, a walk or the listing ends before the end of the front of a text, their answers
-- for the front are those for the text. Assumes nothing.
use Prim.Native.Nat.{ℕ, ◌+◌, ◌*◌, ◌≤◌, ◌<◌}
use mathlib.Core.Path.{◌≡◌, refl, ap, ◌∙◌, subst}
use mathlib.Core.Logic.{◌⊎◌, inl, inr}
use mathlib.Core.List.{List, [], ◌∷◌, ◌++◌, append_assoc}
use native.Mathlib.Omega.{arith}
use lib.ListN.{length, take, drop, length-append, length-drop, drop_of_length-le}
use lib.Seq.{take-append-le, drop-append-le}
use Rattle.wat.specs.declared.{Fault.Fault, Settings.Settings}
use Rattle.wat.specs.declared.{Parsed.Parsed, Listed.Listed}
use Rattle.wat.specs.Stopped.{Stopped}
use Rattle.wat.specs.Answers.{Answer}
use Rattle.wat.specs.Stopped as stop
use Rattle.wat.specs.Utf8.{WellFormed, empty, more}
use Rattle.wat.specs.Lexing.{Fails, Lexed}
use Rattle.wat.specs.Calls.{Text, Stands, Parses}
use Rattle.wat.specs.Division.{Piece, lengths, Divided, Walked, record_size, record_of, records, Stops, Listing}
use Rattle.wat_laws.specs.Windows.{DecidedAnswer, Decided, DecidedStop}
use Rattle.wat.proofs.Basics.{below}
use Rattle.wat.proofs.Scalars.{after}
use Rattle.wat.proofs.Unique.{token_longest, nil_fault}
use Rattle.wat.proofs.Boundaries.{token_formed}
use Rattle.wat_laws.proofs.Divisions.{token_size, divided_length, divided_some}
use Rattle.wat_laws.proofs.OneCall.{stands_or_rejected}
use Rattle.wat_laws.proofs.FaultPlaces.{rejected_other}
use Rattle.wat_laws.proofs.WalkParts.{walked_from, walked_cut}
use Rattle.wat_laws.proofs.Listings.{end_at}
use Rattle.wat_laws.proofs.Windows.{window_lexed, window_token}

-- ---- texts one behind the other

formed_append : {w u : List ℕ} → WellFormed w → WellFormed u → WellFormed (w ++ u)
formed_append empty k = k
formed_append {u = u} (more {c = c} {t = t} ch g) k = rw (append_assoc c t u) (more ch (formed_append g k))

formed_rest : {w : List ℕ} (u : List ℕ) → WellFormed w → WellFormed (w ++ u) → WellFormed u
formed_rest u empty k = k
formed_rest u (more {c = c} {t = t} ch g) k = formed_rest u g (after c (t ++ u) ch (rw (append_assoc c t u) at k))

module _ (front rest : List ℕ) (whole : Text (front ++ rest)) where
  pub window_stands : {pos : ℕ} → Stands front pos → Stands (front ++ rest) pos
  window_stands {pos} s =
      record {
        sound = whole;
        within = omega (arith, s.within, length-append front rest);
        between =
            rw (drop-append-le pos front rest s.within)
            (formed_append s.between (formed_rest rest s.sound.formed whole.formed));
      }

  -- what is left of the text from a position of the front on
  pub window_left : {pos : ℕ} → Stands front pos → WellFormed (drop pos front ++ rest)
  window_left {pos} s = rw (drop-append-le pos front rest s.within) at (window_stands s).between

  -- what is lexed at a position of the front
  pub lexed_at : {σ : Settings} {pos : ℕ} {a : Answer} → Stands front pos → Lexed σ (drop pos front) a
      → DecidedAnswer (drop pos front) a
      → Lexed σ (drop pos (front ++ rest)) a
  lexed_at {pos = pos} s l i =
      rw (drop-append-le pos front rest s.within) (window_lexed rest s.between (window_left s) l i)

  -- ---- parse

  pub window_parses : {σ : Settings} {pos : ℕ} {r : Parsed} → Parses σ front pos r → Decided front r.found r.position
      → Parses σ (front ++ rest) pos r
  window_parses (Parses.rejected t) (Decided.error n h) = absurd (rejected_other t refl)
  window_parses {pos = pos} (Parses.lexes s (Lexed.end e)) z = elim z [ ]
  window_parses {pos = pos} (Parses.lexes s (Lexed.token l f)) (Decided.token h) =
      Parses.lexes (window_stands s) (lexed_at s (Lexed.token l f) (omega (arith, length-drop pos front)))
  window_parses {pos = pos} (Parses.lexes s (Lexed.fails x)) (Decided.error n h) =
      Parses.lexes (window_stands s) (lexed_at s (Lexed.fails x) (omega (arith, length-drop pos front), n))

  -- ---- walks

  pub window_walked : {σ : Settings} {start at : ℕ} {ts : List Piece} → Walked σ front start at ts → at < length front
      → Walked σ (front ++ rest) start at ts
  window_walked {σ} {start} {at} w h =
      let s = walked_from w in
      let d = divided_window s.between w.divided (omega (arith, length-drop at front)) in
      record {
        divided =
            rw (drop-append-le start front rest s.within, drop-append-le at front rest w.stands.within) d;
        place = w.place;
        stands = window_stands w.stands;
      }
    where
      formed : WellFormed rest
      formed = formed_rest rest w.stands.sound.formed whole.formed

      divided_window : {s u : List ℕ} {ts : List Piece} → WellFormed s → Divided σ s ts u → 0 < length u
          → Divided σ (s ++ rest) ts (u ++ rest)
      divided_window g Divided.none k = Divided.none
      divided_window {s} {u} g (Divided.more {t = t} {ts = us} l d) k =
          let z = divided_length d in
          let n : t.len < length s = omega (arith, length-drop t.len s) in
          let i : Divided σ (drop t.len (s ++ rest)) us (u ++ rest) =
          rw (drop-append-le t.len s rest (token_longest l).fits) (divided_window (token_formed g (token_longest l)).1 d k) in
          Divided.more (window_token rest g (formed_append g formed) l n) i

  -- all but the last token of a walk over the front, which may go on in the text
  pub window_walked_last : {σ : Settings} {start at : ℕ} (us : List Piece) (t : Piece) → Walked σ front start at (us ++ (t ∷ []))
      → (start + lengths us < length front) × Walked σ (front ++ rest) start (start + lengths us) us
  window_walked_last {σ} {start} {at} us t w =
      let c = walked_cut us (t ∷ []) w in
      let h : start + lengths us < length front =
      omega (arith, (divided_some c.1.divided).0, c.1.place, w.stands.within) in
      (h, window_walked c.0 h)

  -- ---- the listing

  -- the records of a walk over the front are those of the text
  window_records : {σ : Settings} {start at : ℕ} {ts : List Piece} → Walked σ front start at ts
      → records (drop start (front ++ rest)) ts ≡ records (drop start front) ts
  window_records {start = start} {ts = ts} w =
      let s = walked_from w in
      ap (λ (y : List ℕ). records y ts) (drop-append-le start front rest s.within)
      ∙ same (drop start front) ts (let d = divided_length w.divided in omega arith)
    where
      same : (y : List ℕ) (ts : List Piece) → lengths ts ≤ length y → records (y ++ rest) ts ≡ records y ts
      same y [] h = refl
      same y (t ∷ ts) h =
          ap (λ (z : List ℕ). record_of (take t.len (y ++ rest)) t ++ records z ts) (drop-append-le t.len y rest (omega arith))
          ∙ ap (λ (z : List ℕ). record_of z t ++ records (drop t.len y ++ rest) ts) (take-append-le t.len y rest (omega arith))
          ∙ ap (λ (z : List ℕ). record_of (take t.len y) t ++ z)
          (same (drop t.len y) ts (omega (arith, length-drop t.len y)))

  -- a walk over the front, and why the text's listing stops where it ends
  lists_window : {σ : Settings} {start budget at p : ℕ} {list : List ℕ} {ts : List Piece} {why : Stopped} → Walked σ front start at ts
      → at < length front → length ts ≤ budget → record_size * length ts ≤ length list
      → Stops σ (front ++ rest) budget (length list) (length ts) at why p
      → Listing σ (front ++ rest) start budget list (record { stop = why; count = length ts; position = p })
      (records (drop start front) ts ++ drop (record_size * length ts) list)
  lists_window {σ} {start} {budget} {at} {p} {list} {ts} {why} w h few fits x =
      subst (λ (z : List ℕ). Listing σ (front ++ rest) start budget list (record { stop = why; count = length ts; position = p })
      (z ++ drop (record_size * length ts) list)) (window_records w)
      (Listing.lists (window_stands (walked_from w)) (window_walked w h) few fits x)

  pub window_listing : {σ : Settings} {start budget : ℕ} {list l : List ℕ} {r : Listed} → Listing σ front start budget list r l
      → DecidedStop front r.stop r.position → Listing σ (front ++ rest) start budget list r l
  window_listing (Listing.rejected t) (DecidedStop.error n h) = absurd (rejected_other t refl)
  window_listing {σ} {start} {budget} {list} (Listing.lists {ts = ts} s w f g x) z = stopped w x z
    where
      stopped : {at p : ℕ} {why : Stopped} → Walked σ front start at ts → Stops σ front budget (length list) (length ts) at why p
          → DecidedStop front why p
          → Listing σ (front ++ rest) start budget list (record { stop = why; count = length ts; position = p })
          (records (drop start front) ts ++ drop (record_size * length ts) list)
      stopped w (Stops.end e) z = elim z [ ]
      stopped w (Stops.budget h e) DecidedStop.budget =
          lists_window w h f g (Stops.budget (omega (arith, length-append front rest)) e)
      stopped {at = at} w (Stops.fault b x) (DecidedStop.error n h) =
          lists_window w (omega arith) f g
          (Stops.fault b (lexed_at w.stands x (omega (arith, length-drop at front), n)))
      stopped w (Stops.full b i x) z = elim z [ ]

  -- all but the last token of a walk over the front, as a listing
  pub window_listing_last : {σ : Settings} {start at : ℕ} {list : List ℕ} (us : List Piece) (t : Piece)
      → Walked σ front start at (us ++ (t ∷ [])) → record_size * length us ≤ length list
      → Listing σ (front ++ rest) start (length us) list
      (record { stop = stop.Budget; count = length us; position = start + lengths us })
      (records (drop start front) us ++ drop (record_size * length us) list)
  window_listing_last us t w fits =
      let h = (window_walked_last us t w).0 in
      lists_window (walked_cut us (t ∷ []) w).0 h (omega arith) fits (Stops.budget (omega (arith, length-append front rest)) refl)

  -- a listing that stops before the end of the front, whatever the reason: its tokens are the text's, and so is the list if as
  -- many are asked for
  pub window_listing_tokens : {σ : Settings} {start budget : ℕ} {list l : List ℕ} {r : Listed} → Stands front start
      → Listing σ front start budget list r l → (r.stop ≡ stop.End → ⊥)
      → (at : ℕ) × (at < length front)
      × Listing σ (front ++ rest) start r.count list (record { stop = stop.Budget; count = r.count; position = at }) l
  window_listing_tokens s (Listing.rejected t) n = absurd (stands_or_rejected s t)
  window_listing_tokens s (Listing.lists {at = at} s' w f g x) n =
      let h = before x n in
      (at, h, lists_window w h (omega arith) g (Stops.budget (omega (arith, length-append front rest)) refl))
    where
      some_left : {σ : Settings} {at : ℕ} {e : Fault} → Fails σ (drop at front) e → (at < length front) ⊎ (length front ≤ at)
          → at < length front
      some_left y (inl h) = h
      some_left y (inr h) = absurd (nil_fault y (drop_of_length-le front h))

      before : {σ : Settings} {budget room n at p : ℕ} {why : Stopped} → Stops σ front budget room n at why p
          → (why ≡ stop.End → ⊥) → at < length front
      before (Stops.end e) n = absurd (n refl)
      before (Stops.budget h e) n = h
      before {at = at} (Stops.fault b (Lexed.fails y)) n = some_left y (below at (length front))
      before {at = at} (Stops.full b i y) n = let z = token_size y in omega (arith, length-drop at front)

  -- a listing that came to the front's end: its tokens, and that all but the last are the text's
  pub record ButLast (σ : Settings) (start : ℕ) (list : List ℕ) (r : Listed) (l : List ℕ) : Type 0 where
    pub tokens : List Piece
    pub last : Piece
    pub counted : r.count ≡ length tokens + 1
    pub handed : Walked σ front start (length front) (tokens ++ (last ∷ []))
    pub recorded : l ≡ records (drop start front) (tokens ++ (last ∷ [])) ++ drop (record_size * r.count) list
    pub walked : Walked σ (front ++ rest) start (start + lengths tokens) tokens
    pub listed : Listing σ (front ++ rest) start (length tokens) list
        (record { stop = stop.Budget; count = length tokens; position = start + lengths tokens })
        (records (drop start front) tokens ++ drop (record_size * length tokens) list)

  pub window_listing_end : {σ : Settings} {start budget : ℕ} {list l : List ℕ} {r : Listed}
      → Listing σ front start budget list r l → r.stop ≡ stop.End → 0 < r.count → ButLast σ start list r l
  window_listing_end (Listing.rejected t) e h = absurd (omega arith)
  window_listing_end {σ} {start} {budget} {list} (Listing.lists {ts = ts} {at = at} s w f g stopped) e h =
      let x = end_at stopped e in
      let o = last_of ts h in
      let us = o.0 in
      let t = o.1 in
      let many : length ts ≡ length us + 1 = ap length o.2 ∙ length-append us (t ∷ []) in
      let v : Walked σ front start (length front) (us ++ (t ∷ [])) =
      subst (λ (i : ℕ). Walked σ front start i (us ++ (t ∷ []))) x
      (subst (λ (y : List Piece). Walked σ front start at y) o.2 w) in
      record {
        tokens = us;
        last = t;
        counted = many;
        handed = v;
        recorded = ap (λ (y : List Piece). records (drop start front) y ++ drop (record_size * length ts) list) o.2;
        walked = (window_walked_last us t v).1;
        listed = window_listing_last us t v (omega arith);
      }
    where
      last_of : (ts : List Piece) → 0 < length ts → (us : List Piece) × (t : Piece) × (ts ≡ us ++ (t ∷ []))
      last_of [] h = absurd (omega arith)
      last_of (t ∷ []) h = ([], t, refl)
      last_of (t ∷ u ∷ us) h =
          let i = last_of (u ∷ us) (omega arith) in (t ∷ i.0, i.1, ap (λ (y : List Piece). t ∷ y) i.2)
