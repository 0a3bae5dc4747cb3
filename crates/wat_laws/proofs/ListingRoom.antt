-- A listing that has a budget of a token and room for a record for each byte that is left stops at the end or at a
-- refusal, and never for want of budget or room: no token is empty. Assumes nothing.
use Prim.Native.Nat.{ℕ, ◌-◌, ◌*◌, ◌≤◌}
use mathlib.Core.Path.{◌≡◌}
use mathlib.Core.List.{List}
use native.Mathlib.Omega.{arith}
use lib.ListN.{length, length-drop}
use Rattle.wat.specs.declared.{Settings.Settings, Listed.Listed}
use Rattle.wat.specs.declared.Refusal.TheVariants.{Lexical}
use Rattle.wat.specs.Stopped.{Stopped}
use Rattle.wat.specs.Stopped as stop
use Rattle.wat.specs.Division.{Piece, Walked, record_size, Stops, Listing}
use Rattle.wat_laws.specs.Windows.{Settled}
use Rattle.wat.proofs.Basics.{differ}
use Rattle.wat_laws.proofs.Divisions.{token_size, divided_count}

stops_settled : {σ : Settings} {text : List ℕ} {start budget room at p : ℕ} {ts : List Piece} {why : Stopped}
    → Walked σ text start at ts → length text - start ≤ budget → record_size * (length text - start) ≤ room
    → Stops σ text budget room (length ts) at why p → Settled text start why
stops_settled w b m (Stops.end e) = Settled.end
stops_settled w b m (Stops.budget h e) = absurd (omega (arith, divided_count w.divided, w.place))
stops_settled w b m (Stops.fault h l) = Settled.error
stops_settled {text = text} {at = at} w b m (Stops.full h i l) =
    let z = token_size l in
    absurd (omega (arith, divided_count w.divided, w.place, z.0, z.1, length-drop at text))

pub room_settles : {σ : Settings} {text : List ℕ} {start budget : ℕ} {list l : List ℕ} {r : Listed}
    → Listing σ text start budget list r l → length text - start ≤ budget
    → record_size * (length text - start) ≤ length list → Settled text start r.stop
room_settles (Listing.rejected t) b m = Settled.rejected t
room_settles (Listing.lists s w f g h) b m = stops_settled w b m h

settled_stop : {text : List ℕ} {start : ℕ} {why : Stopped} → Settled text start why
    → (why ≡ stop.Budget → ⊥) × (why ≡ stop.Full → ⊥)
settled_stop Settled.end = (λ (e : stop.End ≡ stop.Budget). differ (cc), λ (e : stop.End ≡ stop.Full). differ (cc))
settled_stop (Settled.rejected {r = r} {p = p} t) =
    (λ (e : stop.Refused r p ≡ stop.Budget). differ (cc), λ (e : stop.Refused r p ≡ stop.Full). differ (cc))
settled_stop (Settled.error {e = e} {p = p}) =
    (λ (q : stop.Refused (Lexical e) p ≡ stop.Budget). differ (cc), λ (q : stop.Refused (Lexical e) p ≡ stop.Full). differ (cc))

pub room_enough : {σ : Settings} {text : List ℕ} {start budget : ℕ} {list l : List ℕ} {r : Listed}
    → Listing σ text start budget list r l → length text - start ≤ budget
    → record_size * (length text - start) ≤ length list
    → (r.stop ≡ stop.Budget → ⊥) × (r.stop ≡ stop.Full → ⊥)
room_enough x b m = settled_stop (room_settles x b m)
