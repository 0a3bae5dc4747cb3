-- Laws of a string that has been read in part: how far the model is there, and what is left of it. Assumes nothing.
use Prim.Native.Nat.{ℕ, zero, suc, ◌+◌, ◌-◌, ◌≤◌, ◌<◌}
use mathlib.Core.Path.{◌≡◌, refl, sym, ap, ◌∙◌}
use mathlib.Core.List.{List, [], ◌++◌, append-nil}
use native.Mathlib.Omega.{arith}
use lib.ListN.{length, take, drop, length-drop, length-append, take-append-drop}
use lib.Seq.{drop-drop, length-take-le}
use Rattle.wat.specs.declared.Fault.{Fault}
use Rattle.wat.specs.Faults.{shift}
use Rattle.wat.proofs.Basics.{fault_same, never}
use Rattle.wat.specs.declared.Settings.{Settings}
use Rattle.wat.specs.StringModel.{quote, refused, read}
use Rattle.wat.specs.RunModel.{StringRead, closed, failed, ahead, body}
use Rattle.wat.proofs.StringRests.{ahead_ahead, ahead_none, elems_body}
use Rattle.std.specs.Prelude.{Bool, true, Option, Some, None, is_some, IfSome}
use Rattle.lex_escapes.specs.Elements.{Element, Refuses}
use Rattle.lex_strings.specs.Raw.{Raws, Pairs}
use Rattle.lex_strings.specs.Parsing.{string, Ends, StringFails, Closes, value_of}

-- from `at` to i stand elements for w, and the model has fuel for the rest
pub record Passed (σ : Settings) (s : List ℕ) (at i : ℕ) (w : List ℕ) : Type 0 where
  pub fuel : ℕ
  pub order : at ≤ i
  pub within : i ≤ length s
  pub enough : length s < i + fuel
  pub short : at + length w ≤ i
  pub same : string σ (drop at s) ≡ ahead (i - at) w (body σ fuel (drop i s))

module _ (σ : Settings) (s : List ℕ) (at : ℕ) where
  pub passed_none : at ≤ length s → Passed σ s at at []
  passed_none h =
      let o : at - at ≡ 0 = omega arith in
      record {
        fuel = suc (length (drop at s));
        order = omega arith;
        within = h;
        enough = omega (arith, length-drop at s);
        short = omega arith;
        same = rw o (sym (ahead_none (string σ (drop at s))));
      }

  module _ (i : ℕ) (w : List ℕ) (p : Passed σ s at i w) where
    -- the model goes on by n bytes that stand for v
    go_on :
        (n g : ℕ) (v : List ℕ) → i + n ≤ length s → length s < i + n + g → length v ≤ n
        → body σ p.fuel (drop i s) ≡ ahead n v (body σ g (drop (i + n) s)) → Passed σ s at (i + n) (w ++ v)
    go_on n g v h k l e =
        let o : i - at + n ≡ i + n - at = omega (arith, p.order) in
        record {
          fuel = g;
          order = omega (arith, p.order);
          within = h;
          enough = k;
          short = omega (arith, length-append w v, p.short);
          same =
              p.same ∙ ap (ahead (i - at) w) e ∙ ahead_ahead (i - at) n w v (body σ g (drop (i + n) s))
              ∙ ap (λ (m : ℕ). ahead m (w ++ v) (body σ g (drop (i + n) s))) o;
        }

    pub passed_raws : (j : ℕ) → Raws s i j → Passed σ s at j (w ++ take (j - i) (drop i s))
    passed_raws j r = go (elems_body (drop (i + n) s) p.fuel (r.are σ) (omega (arith, long, p.enough, r.fits)))
      where
        n : ℕ
        n = j - i

        u : List ℕ
        u = take n (drop i s)

        long : length u ≡ n
        long = length-take-le n (drop i s) (omega (arith, length-drop i s, r.fits))

        go :
            (g : ℕ) × (p.fuel ≤ g + length u) × (0 < g)
            × (body σ p.fuel (u ++ drop (i + n) s) ≡ ahead (length u) u (body σ g (drop (i + n) s)))
            → Passed σ s at j (w ++ u)
        go (g, k, l, e) =
            let d : u ++ drop (i + n) s ≡ drop i s = rw (← (drop-drop n i s)) (take-append-drop n (drop i s)) in
            let q : body σ p.fuel (drop i s) ≡ ahead n u (body σ g (drop (i + n) s)) = rw (d, long) at e in
            let o : i + n ≡ j = omega (arith, r.order) in
            rw o at (go_on n g u (omega (arith, r.fits)) (omega (arith, long, p.enough)) (omega (arith, long)) q)

    pub passed_element : (n : ℕ) (v : List ℕ) → Element (drop i s) (read σ (drop i s)) n v → Passed σ s at (i + n) (w ++ v)
    unfolding body
    passed_element n v x = go p.fuel refl
      where
        go : (f : ℕ) → p.fuel ≡ f → Passed σ s at (i + n) (w ++ v)
        go zero q = absurd (omega (arith, p.enough, p.within))
        go (suc f) q =
            go_on n f v (omega (arith, x.fits, length-drop i s, p.within)) (omega (arith, x.some, p.enough)) x.short
            (rw (q, x.is, drop-drop n i s))

    pub passed_quote : read σ (drop i s) ≡ quote → string σ (drop at s) ≡ closed (i - at + 1) w
    unfolding body
    passed_quote e = go p.fuel refl
      where
        go : (f : ℕ) → p.fuel ≡ f → string σ (drop at s) ≡ closed (i - at + 1) w
        go zero q = absurd (omega (arith, p.enough, p.within))
        go (suc f) q = p.same ∙ rw (q, e, append-nil w)

    pub passed_refused : (x : Fault) → read σ (drop i s) ≡ refused x → string σ (drop at s) ≡ failed (shift (i - at) x)
    unfolding body
    passed_refused x e = go p.fuel refl
      where
        go : (f : ℕ) → p.fuel ≡ f → string σ (drop at s) ≡ failed (shift (i - at) x)
        go zero q = absurd (omega (arith, p.enough, p.within))
        go (suc f) q = p.same ∙ rw (q, e)

    -- what has been read is the beginning of a whole string's value
    pub passed_value : Closes (string σ (drop at s)) → length w ≤ length (value_of (string σ (drop at s)))
    passed_value h = go (body σ p.fuel (drop i s)) p.same
      where
        go : (b : StringRead) → string σ (drop at s) ≡ ahead (i - at) w b → length w ≤ length (value_of (string σ (drop at s)))
        go (closed m u) e = rw e (omega (arith, length-append w u))
        go (failed x) e = absurd (rw e at h)

  module _ (i : ℕ) (w : List ℕ) (p : Passed σ s at i w) where
    pub passed_ends : (read σ (drop i s) ≡ quote) × (1 ≤ length (drop i s)) → Ends σ s at (i + 1)
    passed_ends (e, h) = record {
      len = i - at + 1;
      value = w;
      is = passed_quote i w p e;
      ends = omega (arith, p.order);
      some = omega arith;
      fits = omega (arith, length-drop i s);
    }

    pub passed_fails : (f : Fault) → Refuses (drop i s) (read σ (drop i s)) f → StringFails σ s at (shift i f)
    passed_fails f x = record {
      from = shift (i - at) f;
      is = passed_refused i w p f x.is;
      stands = fault_same f.error (omega (arith, p.order)) (omega (arith, p.order));
      order = omega (arith, x.order);
      fits = omega (arith, x.fits, p.within, length-drop i s);
    }

-- v stands from i to j: if w has been passed up to i, then w and v have been passed up to j
pub record Onward (σ : Settings) (s : List ℕ) (i j : ℕ) (v : List ℕ) : Type 0 where
  pub on : (at : ℕ) (w : List ℕ) → Passed σ s at i w → Passed σ s at j (w ++ v)

module _ (σ : Settings) (s : List ℕ) where
  pub raws_onward : {i j : ℕ} → Raws s i j → Onward σ s i j (take (j - i) (drop i s))
  raws_onward {i} {j} r = record { on = λ at w p. passed_raws σ s at i w p j r }

  pub element_onward : {i n : ℕ} {v : List ℕ} → Element (drop i s) (read σ (drop i s)) n v → Onward σ s i (i + n) v
  element_onward {i} {n} {v} x = record { on = λ at w p. passed_element σ s at i w p n v x }

-- a pair that is there
pub paired : {t : List ℕ} {b : Bool} (o : Option ℕ) → IfSome o (Pairs t) → b ≡ is_some o → b ≡ true → (n : ℕ) × Pairs t n
paired (Some n) p q e = (n, p)
paired None p q e = absurd (never (sym q ∙ e) refl)

-- elements stand from `at` to i, whatever they stand for
pub record Reached (σ : Settings) (s : List ℕ) (at i : ℕ) : Type 0 where
  pub value : List ℕ
  pub passed : Passed σ s at i value

pub reached_none : (σ : Settings) (s : List ℕ) (at : ℕ) → at ≤ length s → Reached σ s at at
reached_none σ s at h = record { value = []; passed = passed_none σ s at h }

module _ {σ : Settings} {s : List ℕ} {at i : ℕ} (x : Reached σ s at i) where
  pub reached_on : {j : ℕ} {v : List ℕ} → Onward σ s i j v → Reached σ s at j
  reached_on {j} {v} o = record { value = x.value ++ v; passed = o.on at x.value x.passed }

  -- past raw characters, and past an element
  pub reached_raws : {j : ℕ} → Raws s i j → Reached σ s at j
  reached_raws r = reached_on (raws_onward σ s r)

  pub reached_element : {n : ℕ} {v : List ℕ} → Element (drop i s) (read σ (drop i s)) n v → Reached σ s at (i + n)
  reached_element r = reached_on (element_onward σ s r)

  pub reached_pair : {b : Bool} (o : Option ℕ) → IfSome o (Pairs (drop i s)) → b ≡ is_some o → b ≡ true
      → Reached σ s at (i + 3)
  reached_pair o p q e = reached_element ((paired o p q e).1 σ)

  pub reached_ends : (read σ (drop i s) ≡ quote) × (1 ≤ length (drop i s)) → Ends σ s at (i + 1)
  reached_ends e = passed_ends σ s at i x.value x.passed e

  pub reached_fails : {f : Fault} → Refuses (drop i s) (read σ (drop i s)) f → StringFails σ s at (shift i f)
  reached_fails {f} r = passed_fails σ s at i x.value x.passed f r
