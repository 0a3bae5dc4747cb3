-- Runs of idchars and strings, passed part by part. Assumes nothing.
use Prim.Native.Nat.{ℕ, suc, ◌+◌, ◌-◌, ◌≤◌, ◌<◌}
use mathlib.Core.Path.{◌≡◌, refl, sym, ap, ◌∙◌}
use mathlib.Core.Bool.{Bool, true, false}
use mathlib.Core.List.{List, [], ◌∷◌, ◌++◌, append-nil, append_assoc}
use native.Mathlib.Omega.{arith}
use lib.ListN.{length, get_or, take, drop, length-append, length-drop}
use lib.Seq.{slice, length-slice, slice_empty, drop-cons, drop-drop, get_or-drop}
use borrow.Author.Tests.{eqb-true, eqb-false}
use Rattle.std.specs.Prelude.{Result, Ok, Err}
use Rattle.wat.specs.declared.Fault.{Fault}
use Rattle.wat.specs.Faults.{shift}
use Rattle.wat.specs.Bytes.{byte, Each}
use Rattle.wat.specs.declared.Settings.{Settings}
use Rattle.wat.specs.Utf8.{WellFormed}
use Rattle.wat.specs.Chars.{idchar}
use Rattle.wat.specs.Strings.{Str}
use Rattle.wat.specs.Tokens.{Run}
use Rattle.wat.specs.RunModel.{failed, on, walk}
use Rattle.wat.specs.LexModel.{count, next}
use Rattle.wat.proofs.Scalars.{after_ascii}
use Rattle.wat.proofs.Runs.{Stopped, ended, halted, quote_no_idchar, idchar_ascii, run_stops, run_fails, Walks, is_run, is_bad, walks}
use Rattle.wat.proofs.Basics.{never, shift_shift}
use Rattle.wat.proofs.Shapes.{word_run}
use Rattle.wat_laws.proofs.TokenShapes.{count_take}
use Rattle.lex_classes.specs.Scan.{Scanned}
use Rattle.lex_classes.proofs.ScanLaws.{count_next}
use Rattle.lex_strings.specs.Parsing.{string, Ends}
use Rattle.lex_strings.proofs.DefinitionLaws.{ends_str, ends_rest}
use Rattle.lex_token.proofs.SliceLaws.{slice_split, slice_take, slice_join}

-- the walk of all that is left
abbrev pub walked : Settings → List ℕ → Result ℕ Fault
walked σ t = walk σ (suc (length t)) t

-- ---- runs one after the other

run_append : {σ : Settings} {u v : List ℕ} → Run σ u → Run σ v → Run σ (u ++ v)
run_append Run.none q = q
run_append (Run.char e r) q = Run.char e (run_append r q)
run_append {v = v} (Run.string {s = s} {t = t} p r) q = rw (append_assoc s t v) (Run.string p (run_append r q))

-- behind a run the walk goes on as if it began there
run_joined : {σ : Settings} {w : List ℕ} (t : List ℕ) → Run σ w → WellFormed t
    → walked σ (w ++ t) ≡ on (length w) (walked σ t)
run_joined {σ} {w} t r g = go (walks (suc (length t)) t (omega arith) g)
  where
    fuel : ℕ
    fuel = suc (length (w ++ t))

    more : (v u : List ℕ) → t ≡ v ++ u → w ++ t ≡ (w ++ v) ++ u
    more v u q = ap (λ (z : List ℕ). w ++ z) q ∙ sym (append_assoc w v u)

    enough : (v u : List ℕ) → t ≡ v ++ u → length (w ++ v) < fuel
    enough v u q = omega (arith, ap length (more v u q), length-append (w ++ v) u)

    go : {k : Result ℕ Fault} → Walks σ t k → walk σ fuel (w ++ t) ≡ on (length w) k
    go (is_run {w = v} {n = n} u q x z m) =
        ap (walk σ fuel) (more v u q) ∙ run_stops fuel (run_append r x) z (enough v u q) ∙ ap Ok (omega (arith, length-append w v))
    go (is_bad {w = v} {s = s} {x = f} q x z i) =
        ap (walk σ fuel) (more v s q) ∙ run_fails fuel (run_append r x) z (enough v s q)
        ∙ ap Err (ap (λ (n : ℕ). shift n f) (length-append w v) ∙ sym (shift_shift (length w) (length v) f)
        ∙ ap (shift (length w)) (sym i))

-- ---- a run in a text, from a place to a place

pub record Ran (σ : Settings) (s : List ℕ) (from to : ℕ) : Type 0 where
  pub onward : from ≤ to
  pub within : to ≤ length s
  pub run : Run σ (slice from to s)
  pub formed : WellFormed (drop to s)

module _ {σ : Settings} {s : List ℕ} where
  pub ran_none : (at : ℕ) → at ≤ length s → WellFormed (drop at s) → Ran σ s at at
  ran_none at h g = record { onward = omega arith; within = h; run = rw (slice_empty at s) Run.none; formed = g }

  pub ran_more : {a b c : ℕ} → Ran σ s a b → Ran σ s b c → Ran σ s a c
  ran_more {a} {b} {c} p q =
      record {
        onward = omega (arith, p.onward, q.onward);
        within = q.within;
        run = rw (slice_join s a b p.within p.onward c q.onward q.within) (run_append p.run q.run);
        formed = q.formed;
      }

  pub ran_walk : {a b : ℕ} → Ran σ s a b → walked σ (drop a s) ≡ on (b - a) (walked σ (drop b s))
  ran_walk {a} {b} p =
      ap (walked σ) (slice_split s a b p.within p.onward) ∙ run_joined (drop b s) p.run p.formed
      ∙ ap (λ (n : ℕ). on n (walked σ (drop b s))) (length-slice a b s p.within)

-- ---- the bytes that a scan has passed

module _ {test : ℕ → Bool} {s : List ℕ} {at end : ℕ} (c : Scanned test true s at end) where
  pub scanned_on : at ≤ end
  scanned_on = omega (arith, c.end)

  pub scanned_each : Each test true (slice at end s)
  scanned_each =
      let e : count test true (drop at s) ≡ end - at = omega (arith, c.end) in
      let l : take (count test true (drop at s)) (drop at s) ≡ slice at end s = rw e (slice_take s at end c.within scanned_on) in
      rw l at (count_take test true (drop at s)).0

-- ---- idchars

after_idchars : {w : List ℕ} (u : List ℕ) → Each idchar true w → WellFormed (w ++ u) → WellFormed u
after_idchars u Each.none g = g
after_idchars u (Each.next {x = x} {t = t} e r) g = after_idchars u r (after_ascii x (t ++ u) (idchar_ascii x e) g)

module _ {s : List ℕ} {at end : ℕ} (c : Scanned idchar true s at end) where
  onward : at ≤ end
  onward = scanned_on c

  pub ran_idchars : {σ : Settings} → WellFormed (drop at s) → Ran σ s at end
  ran_idchars g =
      record {
        onward = onward;
        within = c.within;
        run = word_run (scanned_each c);
        formed = after_idchars (drop end s) (scanned_each c) (rw (slice_split s at end c.within onward) at g);
      }

  -- no quotation mark behind them: the run stops
  pub idchars_stop : next (byte "\"") (drop end s) ≡ false → Stopped (drop end s)
  idchars_stop n = go (drop end s) refl
    where
      go : (t : List ℕ) → drop end s ≡ t → Stopped (drop end s)
      go [] e = rw e ended
      go (x ∷ u) e =
          let h : end < length s = omega (arith, length-drop end s, ap length e) in
          let d : get_or s end 0 ∷ drop (suc end) s ≡ x ∷ u = sym (drop-cons s end 0 h) ∙ e in
          let q : get_or s end 0 ≡ x = cc in
          let f : idchar (get_or (drop at s) (count idchar true (drop at s)) 0) ≡ false =
          count_next idchar true (drop at s) (omega (arith, length-drop at s, c.end)) in
          let i : idchar x ≡ false = rw (get_or-drop at s (count idchar true (drop at s)) 0, ← c.end, q) at f in
          rw e (halted i (eqb-false x (byte "\"") (sym (ap (next (byte "\"")) e) ∙ n)))

-- ---- strings

pub quote_at : (s : List ℕ) (at : ℕ) → next (byte "\"") (drop at s) ≡ true
    → (at < length s) × (drop at s ≡ byte "\"" ∷ drop (at + 1) s)
quote_at s at n = go (drop at s) refl
  where
    go : (t : List ℕ) → drop at s ≡ t → (at < length s) × (drop at s ≡ byte "\"" ∷ drop (at + 1) s)
    go [] e = absurd (never (sym (ap (next (byte "\"")) e) ∙ n) refl)
    go (x ∷ u) e =
        let q : x ≡ byte "\"" = eqb-true x (byte "\"") (sym (ap (next (byte "\"")) e) ∙ n) in
        let d : drop (at + 1) s ≡ u = sym (drop-drop 1 at s) ∙ ap (drop 1) e in
        (omega (arith, length-drop at s, ap length e), cc)

-- a whole string in a text
pub record Quoted (σ : Settings) (s : List ℕ) (at end : ℕ) : Type 0 where
  pub value : List ℕ
  pub is : Str σ (slice at end s) value
  pub two : at + 2 ≤ end
  pub ran : Ran σ s at end

module _ (σ : Settings) (s : List ℕ) (at : ℕ) (q : drop at s ≡ byte "\"" ∷ drop (at + 1) s) where
  pub string_closed : {end : ℕ} → WellFormed (drop at s) → Ends σ s (at + 1) end → Quoted σ s at end
  string_closed {end} g x =
      let u = after_ascii (byte "\"") (drop (at + 1) s) (omega arith) (rw q at g) in
      let n : end - at ≡ suc x.len = omega (arith, x.ends) in
      let e : slice at end s ≡ byte "\"" ∷ take x.len (drop (at + 1) s) =
      sym (slice_take s at end x.fits (omega (arith, x.ends))) ∙ ap (take (end - at)) q
      ∙ ap (λ (m : ℕ). take m (byte "\"" ∷ drop (at + 1) s)) n in
      let str : Str σ (slice at end s) x.value = rw e (ends_str x u) in
      record {
        value = x.value;
        is = str;
        two = omega (arith, x.ends, x.some);
        ran = record {
          onward = omega (arith, x.ends);
          within = x.fits;
          run = rw append-nil at (Run.string str Run.none);
          formed = ends_rest x u;
        };
      }

  pub string_failed : {f : Fault} → string σ (drop (at + 1) s) ≡ failed f → walked σ (drop at s) ≡ Err (shift 1 f)
  unfolding walk
  string_failed e = ap (walked σ) q ∙ rw (quote_no_idchar, walk) (rw e)
