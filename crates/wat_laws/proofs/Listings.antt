-- The listing call has one answer, and one list afterwards, for every text, start, budget and list; and what it says
-- of a text that it carries from byte 0 to its end. Assumes nothing.
use Prim.Native.Nat.{ℕ, zero, suc, ◌+◌, ◌*◌, ◌≤◌, ◌<◌}
use mathlib.Core.Path.{◌≡◌, refl, sym, ap, ◌∙◌, subst}
use mathlib.Core.Logic.{◌⊎◌, inl, inr, ⊎_elim}
use mathlib.Core.List.{List, [], ◌∷◌, ◌++◌}
use native.Mathlib.Omega.{arith}
use lib.ListN.{length, drop, length-append, length-drop, drop_of_length-le}
use Rattle.wat.specs.declared.{TokenKind.TokenKind, Settings.Settings, Listed.Listed}
use Rattle.wat.specs.Stopped.{Stopped}
use Rattle.wat.specs.Answers.{Answer}
use Rattle.wat.specs.Answers as answer
use Rattle.wat.specs.Stopped as stop
use Rattle.wat.specs.Lexing.{Lexed}
use Rattle.wat.specs.LexModel.{lex}
use Rattle.wat.specs.Division.{Piece, lengths, Divided, Walked, record_size, Stops, Listing}
use Rattle.wat.proofs.Basics.{differ, below}
use Rattle.wat.proofs.Unique.{lexed_one}
use Rattle.wat_laws.proofs.Total.{lexed}
use Rattle.wat_laws.proofs.OneCall.{rejected_one, stands_or_rejected, Entering, entering}
use Rattle.wat.specs.Whole.{Whole}
use Rattle.wat_laws.proofs.Divisions.{token_size, divided_one, divided_next, one_division}
use Rattle.wat_laws.proofs.Walks.{walked_start, walked_more, walked_end}

-- ---- one answer

-- at the end nothing is lexed
not_at_end : {σ : Settings} {a : Answer} (text : List ℕ) (at : ℕ) → Lexed σ (drop at text) a → (a ≡ answer.End → ⊥)
    → at ≡ length text → ⊥
not_at_end {σ} {a} text at l h q = h (lexed_one l (Lexed.end (drop_of_length-le text le)))
  where
    le : length text ≤ at
    le = omega arith

module _ {σ : Settings} {text : List ℕ} {budget room n at : ℕ} where
  -- a token follows, and there are budget and room for it: the listing does not stop
  goes_on : {k : TokenKind} {m p : ℕ} {why : Stopped} → Lexed σ (drop at text) (answer.Token k m) → n < budget
      → record_size * n + record_size ≤ room
      → Stops σ text budget room n at why p → ⊥
  goes_on l b r (Stops.end e) = let z = token_size l in omega (arith, z.0, z.1, length-drop at text)
  goes_on l b r (Stops.budget h e) = omega arith
  goes_on l b r (Stops.fault h g) = let q = lexed_one l g in differ (cc)
  goes_on l b r (Stops.full h i g) = omega arith

  stops_one : {p p' : ℕ} {why why' : Stopped} → Stops σ text budget room n at why p
      → Stops σ text budget room n at why' p' → (why ≡ why') × (p ≡ p')
  stops_one (Stops.end e) (Stops.end e') = (refl, refl)
  stops_one (Stops.end e) (Stops.budget h e') = absurd (omega arith)
  stops_one (Stops.end e) (Stops.fault h g) = absurd (not_at_end text at g (λ q. differ (cc)) e)
  stops_one (Stops.end e) (Stops.full h i g) = absurd (not_at_end text at g (λ q. differ (cc)) e)
  stops_one (Stops.budget h e) (Stops.end e') = absurd (omega arith)
  stops_one (Stops.budget h e) (Stops.budget h' e') = (refl, refl)
  stops_one (Stops.budget h e) (Stops.fault h' g) = absurd (omega arith)
  stops_one (Stops.budget h e) (Stops.full h' i g) = absurd (omega arith)
  stops_one (Stops.fault h g) (Stops.end e) = absurd (not_at_end text at g (λ q. differ (cc)) e)
  stops_one (Stops.fault h g) (Stops.budget h' e) = absurd (omega arith)
  stops_one (Stops.fault h g) (Stops.fault h' g') = let z = lexed_one g g' in (cc, cc)
  stops_one (Stops.fault h g) (Stops.full h' i g') = let z = lexed_one g g' in differ (cc)
  stops_one (Stops.full h i g) (Stops.end e) = absurd (not_at_end text at g (λ q. differ (cc)) e)
  stops_one (Stops.full h i g) (Stops.budget h' e) = absurd (omega arith)
  stops_one (Stops.full h i g) (Stops.fault h' g') = let z = lexed_one g g' in differ (cc)
  stops_one (Stops.full h i g) (Stops.full h' i' g') = (refl, refl)

-- what a listing hands out: so many tokens as budget and room allow, and why no more
record Handed (σ : Settings) (text : List ℕ) (start budget room : ℕ) (ts : List Piece) (at : ℕ) (why : Stopped) (p : ℕ) : Type 0 where
  walked : Walked σ text start at ts
  few : length ts ≤ budget
  fits : record_size * length ts ≤ room
  stops : Stops σ text budget room (length ts) at why p

module _ {σ : Settings} {text : List ℕ} {start budget room : ℕ} where
  -- no listing stops before another goes on
  not_fewer : {ts us : List Piece} {at bt p q : ℕ} {why that : Stopped} → Handed σ text start budget room ts at why p
      → Handed σ text start budget room us bt that q
      → length ts < length us → ⊥
  not_fewer a b h =
      let t = divided_next a.walked.divided b.walked.divided h in
      goes_on t.1 (omega (arith, b.few)) (omega (arith, b.fits)) a.stops

  handed_one : {ts us : List Piece} {at bt p q : ℕ} {why that : Stopped} → Handed σ text start budget room ts at why p
      → Handed σ text start budget room us bt that q
      → (ts ≡ us) × (why ≡ that) × (p ≡ q)
  handed_one {ts} {us} {at} {bt} {p} {q} {why} {that} a b =
      let many : length ts ≡ length us =
      ⊎_elim (λ h. absurd (not_fewer a b h))
      (λ h. ⊎_elim (λ k. absurd (not_fewer b a k)) (λ k. omega arith) (below (length us) (length ts)))
      (below (length ts) (length us)) in
      let d = divided_one a.walked.divided b.walked.divided many in
      let same : bt ≡ at = b.walked.place ∙ ap (λ (xs : List Piece). start + lengths xs) (sym d.0) ∙ sym a.walked.place in
      let s =
      stops_one a.stops (subst (λ (i : ℕ). Stops σ text budget room (length ts) i that q) same
      (subst (λ (n : ℕ). Stops σ text budget room n bt that q) (sym many) b.stops)) in
      (d.0, s.0, s.1)

-- one answer, and one list afterwards
pub listing_one : {σ : Settings} {text : List ℕ} {start budget : ℕ} {list l l' : List ℕ} {r r' : Listed}
    → Listing σ text start budget list r l → Listing σ text start budget list r' l' → (r ≡ r') × (l ≡ l')
listing_one (Listing.rejected t) (Listing.rejected t') = let z = rejected_one t t' in let a = z.0 in let b = z.1 in (cc, refl)
listing_one (Listing.rejected t) (Listing.lists s w f g h) = absurd (stands_or_rejected s t)
listing_one (Listing.lists s w f g h) (Listing.rejected t) = absurd (stands_or_rejected s t)
listing_one (Listing.lists s w f g h) (Listing.lists s' w' f' g' h') =
    let z =
    handed_one (record { walked = w; few = f; fits = g; stops = h })
    (record { walked = w'; few = f'; fits = g'; stops = h' }) in
    let a = z.0 in
    let b = z.1 in
    let c = z.2 in
    (cc, cc)

-- ---- an answer for each text, start, budget and list

-- from a walk on, with a budget of b tokens more
lists_on : (σ : Settings) (text : List ℕ) (start budget room b : ℕ) {at : ℕ} {ts : List Piece} → Walked σ text start at ts
    → length ts + b ≡ budget
    → record_size * length ts ≤ room
    → (us : List Piece) × (bt : ℕ) × (why : Stopped) × (p : ℕ) × Handed σ text start budget room us bt why p
lists_on σ text start budget room zero {at} {ts} w e f = go (below at (length text))
  where
    go : (at < length text) ⊎ (length text ≤ at)
        → (us : List Piece) × (bt : ℕ) × (why : Stopped) × (p : ℕ) × Handed σ text start budget room us bt why p
    go (inl h) = (ts, at, stop.Budget, at, record { walked = w; few = omega arith; fits = f; stops = Stops.budget h (omega arith) })
    go (inr h) =
        (ts, at, stop.End, at, record { walked = w; few = omega arith; fits = f; stops = Stops.end (omega (arith, w.stands.within)) })
lists_on σ text start budget room (suc b) {at} {ts} w e f =
    go (lex σ (drop at text)) (lexed σ w.stands.between)
    (λ us i v g h. lists_on σ text start budget room b {at = i} {ts = us} v g h)
  where
    Out : Type 0
    Out = (us : List Piece) × (bt : ℕ) × (why : Stopped) × (p : ℕ) × Handed σ text start budget room us bt why p

    Next : Type 0
    Next = (us : List Piece) (i : ℕ) → Walked σ text start i us → length us + b ≡ budget → record_size * length us ≤ room
        → Out

    token : (k : TokenKind) (m : ℕ) → Lexed σ (drop at text) (answer.Token k m)
        → (room < record_size * length ts + record_size) ⊎ (record_size * length ts + record_size ≤ room) → Next → Out
    token k m l (inl h) ih =
        (ts, at, stop.Full, at, record { walked = w; few = omega arith; fits = f; stops = Stops.full (omega arith) h l })
    token k m l (inr h) ih =
        let t : Piece = record { kind = k; len = m } in
        let n = length-append ts (t ∷ []) in
        ih (ts ++ (t ∷ [])) (at + m) (walked_more σ text w l) (omega arith) (omega arith)

    go : (a : Answer) → Lexed σ (drop at text) a → Next → Out
    go a (Lexed.end q) ih =
        let h : at ≡ length text = omega (arith, length-drop at text, ap length q, w.stands.within) in
        (ts, at, stop.End, at, record { walked = w; few = omega arith; fits = f; stops = Stops.end h })
    go a (Lexed.token {k = k} {n = m} l nf) ih = token k m (Lexed.token l nf) (below room (record_size * length ts + record_size)) ih
    go a (Lexed.fails x) ih =
        (ts, at, _, _, record { walked = w; few = omega arith; fits = f; stops = Stops.fault (omega arith) (Lexed.fails x) })

pub lists_all : (σ : Settings) (text : List ℕ) (start budget : ℕ) (list : List ℕ)
    → (r : Listed) × (l : List ℕ) × Listing σ text start budget list r l
lists_all σ text start budget list = go (entering text start)
  where
    go : Entering text start → (r : Listed) × (l : List ℕ) × Listing σ text start budget list r l
    go (inl t) = (_, list, Listing.rejected t.2)
    go (inr s) =
        let o = lists_on σ text start budget (length list) budget (walked_start σ text s) (omega arith) (omega arith) in
        let h = o.4 in
        (_, _, Listing.lists s h.walked h.few h.fits h.stops)

-- ---- a text that the listing carries from byte 0 to its end

pub end_at : {σ : Settings} {text : List ℕ} {budget room n at p : ℕ} {why : Stopped} → Stops σ text budget room n at why p
    → why ≡ stop.End → at ≡ length text
end_at (Stops.end e) q = e
end_at (Stops.budget h e) q = differ (cc)
end_at (Stops.fault h g) q = differ (cc)
end_at (Stops.full h i g) q = differ (cc)

pub listed_whole : {σ : Settings} {text : List ℕ} {budget : ℕ} {list l : List ℕ} {r : Listed}
    → Listing σ text 0 budget list r l → r.stop ≡ stop.End
    → Whole σ text list r l
listed_whole (Listing.rejected t) e = differ (cc)
listed_whole {σ} {text} (Listing.lists {ts = ts} s w f g x) e =
    let h = end_at x e in
    let d : Divided σ text ts [] = walked_end σ text w (omega arith) in
    record { tokens = ts; divided = d; division = one_division d; counted = refl; recorded = refl }
