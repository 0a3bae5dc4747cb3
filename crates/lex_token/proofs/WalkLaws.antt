-- The code's walk over a run: where it stops and how it fails. Assumes nothing.
use Prim.Native.Nat.{ℕ, suc, ◌+◌, ◌-◌}
use mathlib.Core.Path.{◌≡◌, refl, sym, ap, ◌∙◌}
use mathlib.Core.List.{List}
use native.Mathlib.Omega.{arith}
use lib.ListN.{length, drop}
use Rattle.std.specs.Prelude.{Result, Ok, Err}
use Rattle.wat.specs.declared.{Fault.Fault, Settings.Settings}
use Rattle.wat.specs.Faults.{shift}
use Rattle.wat.specs.Tokens.{Run}
use Rattle.wat.specs.RunModel.{on}
use Rattle.wat.proofs.Basics.{differ, shift_shift}
use Rattle.wat.proofs.Runs.{Stopped, run_stops}
use Rattle.lex_token.proofs.RunLaws.{walked, Ran, ran_walk, ran_more, ran_idchars, idchars_stop}
use mathlib.Core.Bool.{Bool, true, false}
use Rattle.wat.specs.Bytes.{byte}
use Rattle.wat.specs.Chars.{idchar}
use Rattle.wat.specs.LexModel.{next}
use Rattle.lex_classes.specs.Scan.{Scanned}
use Rattle.lex_strings.specs.Parsing.{Ends, StringFails}
use Rattle.lex_token.proofs.StringLaws.{parsed_closed, parsed_failed}

module _ (σ : Settings) (s : List ℕ) (at i : ℕ) (r : Ran σ s at i) where
  pub walk_stops : Stopped (drop i s) → Ok i ≡ on at (walked σ (drop at s))
  walk_stops z =
      let e = ran_walk r ∙ ap (on (i - at)) (run_stops (suc (length (drop i s))) Run.none z (omega arith)) in
      let n : i ≡ at + (i - at + 0) = omega (arith, r.onward) in
      rw e (ap Ok n)

  pub walk_fails : (f x : Fault) → walked σ (drop i s) ≡ Err x → f ≡ shift i x → Err f ≡ on at (walked σ (drop at s))
  walk_fails f x q l =
      let w = ran_walk r ∙ ap (on (i - at)) q in
      let n : i ≡ at + (i - at) = omega (arith, r.onward) in
      rw w (ap Err (l ∙ ap (λ (m : ℕ). shift m x) n ∙ sym (shift_shift at (i - at) x)))

-- what an answer of the code says of the model's walk
module _ (at : ℕ) where
  pub stops_of : {end : ℕ} (w : Result ℕ Fault) → on at w ≡ Ok end → (n : ℕ) × (w ≡ Ok n) × (end ≡ at + n)
  stops_of (Ok n) e = (n, refl, cc)
  stops_of (Err x) e = differ (cc)

  pub fails_of : {f : Fault} (w : Result ℕ Fault) → on at w ≡ Err f → (x : Fault) × (w ≡ Err x) × (f ≡ shift at x)
  fails_of (Ok n) e = differ (cc)
  fails_of (Err x) e = (x, refl, cc)

-- by what the code asks: the idchars from i to k, and whether a quotation mark follows
module _ (σ : Settings) (s : List ℕ) (at i k : ℕ) (b : Bool) where
  words : Scanned idchar true s i k → Ran σ s at i → Ran σ s at k
  words c r = ran_more r (ran_idchars c r.formed)

  pub run_ends : Scanned idchar true s i k → Ran σ s at i → b ≡ next (byte "\"") (drop k s) → b ≡ false
      → Ok k ≡ on at (walked σ (drop at s))
  run_ends c r q e = walk_stops σ s at k (words c r) (idchars_stop c (sym q ∙ e))

  pub run_on : (end : ℕ) → Ends σ s (k + 1) end → Scanned idchar true s i k → b ≡ next (byte "\"") (drop k s) → b ≡ true
      → Ran σ s at i → Ran σ s at end
  run_on end x c q e r = let w = words c r in ran_more w (parsed_closed s k (sym q ∙ e) σ x w.formed refl).ran

  pub run_breaks : (f : Fault) → StringFails σ s (k + 1) f → Scanned idchar true s i k → b ≡ next (byte "\"") (drop k s)
      → b ≡ true → Ran σ s at i → Err f ≡ on at (walked σ (drop at s))
  run_breaks f x c q e r =
      let p = parsed_failed s k (sym q ∙ e) σ x refl in walk_fails σ s at k (words c r) f p.0 p.1 p.2
