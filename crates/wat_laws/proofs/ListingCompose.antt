-- Listings compose: one that the budget or 33 stopped, and one from its position on, are together one listing; and where
-- a listing stops short of a refusal, the text can be read on. Assumes nothing.
use Prim.Native.Nat.{ℕ, ◌+◌, ◌*◌, ◌≤◌}
use mathlib.Core.Path.{◌≡◌, refl, sym, ap, ◌∙◌, subst}
use mathlib.Core.Logic.{◌⊎◌, inl, inr}
use mathlib.Core.List.{List, ◌++◌, append_assoc}
use native.Mathlib.Omega.{arith}
use lib.ListN.{length, take, drop, length-append}
use lib.Seq.{drop-drop, take_at, drop-append-add}
use Rattle.wat.specs.declared.{Settings.Settings, Listed.Listed}
use Rattle.wat.specs.Stopped.{Stopped}
use Rattle.wat.specs.Stopped as stop
use Rattle.wat.specs.Calls.{Stands}
use Rattle.wat.specs.Division.{Piece, lengths, Walked, record_size, records, Stops, Listing}
use Rattle.wat_laws.specs.Windows.{Paused}
use Rattle.wat.proofs.Basics.{differ}
use Rattle.wat_laws.proofs.OneCall.{stands_or_rejected}
use Rattle.wat_laws.proofs.Walks.{walked_then, records_length, records_append}

-- ---- where a listing stops

module _ {σ : Settings} {text : List ℕ} {budget room n at : ℕ} where
  -- short of a refusal, the position is where the walk ended
  stops_at : {p : ℕ} {why : Stopped} → Stops σ text budget room n at why p → (why ≡ stop.End) ⊎ Paused why → p ≡ at
  stops_at (Stops.end e) q = refl
  stops_at (Stops.budget h e) q = refl
  stops_at (Stops.fault h l) (inl q) = differ (cc)
  stops_at (Stops.fault h l) (inr (inl q)) = differ (cc)
  stops_at (Stops.fault h l) (inr (inr q)) = differ (cc)
  stops_at (Stops.full h i l) q = refl

  -- c tokens before, with budget and room for them, change no stop
  stops_behind : (c wide many : ℕ) {p : ℕ} {why : Stopped} → wide ≡ record_size * c + room → many ≡ c + n
      → Stops σ text budget room n at why p → Stops σ text (c + budget) wide many at why p
  stops_behind c wide many q m (Stops.end e) = Stops.end e
  stops_behind c wide many q m (Stops.budget h e) = Stops.budget h (omega arith)
  stops_behind c wide many q m (Stops.fault h l) = Stops.fault (omega arith) l
  stops_behind c wide many q m (Stops.full h i l) = Stops.full (omega arith) (omega arith) l

pub listing_stands : {σ : Settings} {text : List ℕ} {start budget : ℕ} {list l : List ℕ} {r : Listed}
    → Listing σ text start budget list r l → (r.stop ≡ stop.End) ⊎ Paused r.stop → Stands text r.position
listing_stands (Listing.rejected t) (inl q) = differ (cc)
listing_stands (Listing.rejected t) (inr (inl q)) = differ (cc)
listing_stands (Listing.rejected t) (inr (inr q)) = differ (cc)
listing_stands {text = text} (Listing.lists s w f g h) q = subst (λ (i : ℕ). Stands text i) (sym (stops_at h q)) w.stands

-- ---- two listings

-- the records of the walk, then those that the listing left
records_then : (text : List ℕ) (start at : ℕ) (us vs : List Piece) (front list : List ℕ) → at ≡ start + lengths us
    → length front ≡ record_size * length us
    → records (drop start text) (us ++ vs) ++ drop (record_size * length (us ++ vs)) (front ++ list)
    ≡ records (drop start text) us ++ (records (drop at text) vs ++ drop (record_size * length vs) list)
records_then text start at us vs front list e q =
    let a = records (drop start text) us in
    let b = records (drop at text) vs in
    let d = drop (record_size * length vs) list in
    let both : records (drop start text) (us ++ vs) ≡ a ++ b =
    records_append (drop start text) us vs
    ∙ ap (λ (x : List ℕ). a ++ records x vs) (drop-drop (lengths us) start text ∙ ap (λ (i : ℕ). drop i text) (sym e)) in
    let many : record_size * length (us ++ vs) ≡ length front + record_size * length vs = omega (arith, length-append us vs, q) in
    let rest : drop (record_size * length (us ++ vs)) (front ++ list) ≡ d =
    ap (λ (i : ℕ). drop i (front ++ list)) many ∙ drop-append-add front list (record_size * length vs) in
    ap (λ (x : List ℕ). x ++ drop (record_size * length (us ++ vs)) (front ++ list)) both
    ∙ ap (λ (x : List ℕ). (a ++ b) ++ x) rest ∙ append_assoc a b d

-- a walk, and a listing from where it ended
walked_lists : {σ : Settings} {text : List ℕ} {start at budget : ℕ} {us : List Piece} {list l : List ℕ} {r : Listed}
    (front : List ℕ) → Stands text start → Walked σ text start at us → length front ≡ record_size * length us
    → Listing σ text at budget list r l
    → Listing σ text start (length us + budget) (front ++ list)
    (record { stop = r.stop; count = length us + r.count; position = r.position }) (records (drop start text) us ++ l)
walked_lists front s w q (Listing.rejected t) = absurd (stands_or_rejected w.stands t)
walked_lists {σ} {text} {start} {at} {budget} {us} {list} front s w q
    (Listing.lists {ts = vs} {at = end} {p = p} {why = why} s' w' f g h) =
    let n = length-append us vs in
    let m = length-append front list in
    let few : length (us ++ vs) ≤ length us + budget = omega (arith, n, f) in
    let fits : record_size * length (us ++ vs) ≤ length (front ++ list) = omega (arith, n, m, g, q) in
    let stops = stops_behind (length us) (length (front ++ list)) (length (us ++ vs)) (omega (arith, m, q)) n h in
    let both = Listing.lists s (walked_then σ text w w') few fits stops in
    subst (λ (i : ℕ). Joint i left) n (subst (Joint (length (us ++ vs))) (records_then text start at us vs front list w.place q) both)
  where
    Joint : ℕ → List ℕ → Type 0
    Joint i x = Listing σ text start (length us + budget) (front ++ list) (record { stop = why; count = i; position = p }) x

    left : List ℕ
    left = records (drop start text) us ++ (records (drop at text) vs ++ drop (record_size * length vs) list)

-- stopped by the budget or by 33 and asked again at its position, a listing hands out the tokens of one listing: the
-- budget counts what was handed out and then the second's, and the list is `front`, as long as the first's records, and
-- then the second's
pub listings_compose : {σ : Settings} {text : List ℕ} {start b b' : ℕ} {list list' l l' : List ℕ} {r r' : Listed}
    (front : List ℕ) → Listing σ text start b list r l → Paused r.stop → Listing σ text r.position b' list' r' l'
    → length front ≡ record_size * r.count
    → Listing σ text start (r.count + b') (front ++ list')
    (record { stop = r'.stop; count = r.count + r'.count; position = r'.position }) (take (record_size * r.count) l ++ l')
listings_compose front (Listing.rejected t) (inl q) y e = differ (cc)
listings_compose front (Listing.rejected t) (inr q) y e = differ (cc)
listings_compose {σ} {text} {start} {b} {b'} {list} {list'} {l} {l'} {r} {r'} front
    (Listing.lists {ts = us} s w f g h) q y e =
    let there = subst (λ (i : ℕ). Listing σ text i b' list' r' l') (stops_at h (inr q)) y in
    let cut = take_at (records (drop start text) us) (drop (record_size * length us) list) (record_size * length us)
    (records_length (drop start text) us) in
    subst (λ (x : List ℕ). Listing σ text start (length us + b') (front ++ list')
    (record { stop = r'.stop; count = length us + r'.count; position = r'.position }) (x ++ l')) (sym cut)
    (walked_lists front s w e there)
