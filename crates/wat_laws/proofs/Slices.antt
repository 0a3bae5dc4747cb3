-- The window anywhere in a text: what the calls answer for a piece of it that begins at a character boundary, if that ends
-- before the piece does, they answer for the text, counted from its start. Assumes nothing.
use Prim.Native.Nat.{ℕ, ◌+◌, ◌<◌}
use mathlib.Core.Path.{refl}
use mathlib.Core.List.{List, ◌++◌}
use native.Mathlib.Omega.{arith}
use lib.ListN.{length, length-append}
use lib.Seq.{drop-append_seam}
use Rattle.wat.specs.declared.{Settings.Settings, Parsed.Parsed, Listed.Listed}
use Rattle.wat.specs.Calls.{Text, Stands, Parses}
use Rattle.wat.specs.Division.{Piece, Walked, Listing}
use Rattle.wat_laws.specs.Windows.{Decided, DecidedStop, moved_parsed, moved_listed}
use Rattle.wat_laws.proofs.FaultPlaces.{rejected_other}
use Rattle.wat_laws.proofs.Tails.{tail_parses, tail_walked, tail_listing}
use Rattle.wat_laws.proofs.WindowCalls.{window_stands, window_parses, window_walked, window_listing}

module _ (before piece rest : List ℕ) (begins : Stands (before ++ (piece ++ rest)) (length before)) where
  -- the text from the piece on
  pub behind : Text (piece ++ rest)
  behind =
      record {
        short = omega (arith, begins.sound.short, length-append before (piece ++ rest));
        formed = rw (drop-append_seam before (piece ++ rest)) at begins.between;
      }

  pub slice_parses : {σ : Settings} {pos : ℕ} {r : Parsed} → Parses σ piece pos r → Decided piece r.found r.position
      → Parses σ (before ++ (piece ++ rest)) (length before + pos) (moved_parsed (length before) r)
  slice_parses {pos = pos} p d =
      tail_parses before (piece ++ rest) begins.sound (stands p d) (window_parses piece rest behind p d)
    where
      stands : {σ : Settings} {r : Parsed} → Parses σ piece pos r → Decided piece r.found r.position
          → Stands (piece ++ rest) pos
      stands (Parses.rejected t) (Decided.error n h) = absurd (rejected_other t refl)
      stands (Parses.lexes s l) d = window_stands piece rest behind s

  pub slice_walked : {σ : Settings} {start at : ℕ} {ts : List Piece} → Walked σ piece start at ts → at < length piece
      → Walked σ (before ++ (piece ++ rest)) (length before + start) (length before + at) ts
  slice_walked w h = tail_walked before (piece ++ rest) begins.sound (window_walked piece rest behind w h)

  pub slice_listing : {σ : Settings} {start budget : ℕ} {list l : List ℕ} {r : Listed} → Listing σ piece start budget list r l
      → DecidedStop piece r.stop r.position
      → Listing σ (before ++ (piece ++ rest)) (length before + start) budget list (moved_listed (length before) r) l
  slice_listing {start = start} x d =
      tail_listing before (piece ++ rest) begins.sound (stands x d) (window_listing piece rest behind x d)
    where
      stands : {σ : Settings} {budget : ℕ} {list l : List ℕ} {r : Listed} → Listing σ piece start budget list r l
          → DecidedStop piece r.stop r.position → Stands (piece ++ rest) start
      stands (Listing.rejected t) (DecidedStop.error n h) = absurd (rejected_other t refl)
      stands (Listing.lists s w f g y) d = window_stands piece rest behind s
