-- Laws for the loop that reads the number of `\u{..}`. Assumes nothing.
use Prim.Native.Nat.{ℕ, suc, ◌+◌, ◌-◌, ◌*◌, ◌^◌, ◌≤◌, ◌<◌}
use mathlib.Core.Path.{◌≡◌, refl, sym, ◌∙◌}
use mathlib.Core.List.{List, ◌∷◌}
use mathlib.Core.Option.{none, some}
use mathlib.Core.Bool.{Bool, true, false, ◌&&◌}
use native.Mathlib.Omega.{arith}
use native.Mathlib.Numerals.{add-one}
use lib.ListN.{length, get_or, drop, length-drop, drop_of_length-le}
use lib.Seq.{drop-cons}
use Rattle.wat.specs.Bytes.{byte}
use Rattle.wat.specs.declared.Settings.{Settings}
use Rattle.wat.specs.StringModel.{hex_of, close, digits}
use Rattle.wat.proofs.HexDigits.{of_hex, hex_small, no_digit, goes_split}
use Rattle.wat.proofs.Hexnums.{under, under_twice, on_digit, on_big, on_stop}
use Rattle.lex_escapes.specs.Elements.{consumed, Counted}
use Rattle.wat.specs.declared.Num.{Num}
use Rattle.wat.specs.declared.Num.TheVariants.{Big, Double}

-- what has been read from `at`, past the first digit, to i
pub record Run (σ : Settings) (s : List ℕ) (at first i value : ℕ) (u : Bool) : Type 0 where
  pub more : at ≤ i
  pub fits : i ≤ length s
  pub small : value < 2 ^ 32
  pub goes : digits σ false first 1 (drop at s) ≡ digits σ u value (1 + (i - at)) (drop i s)

pub run_start : (σ : Settings) (s : List ℕ) (at first : ℕ) → at ≤ length s → first < 2 ^ 32 → Run σ s at first at first false
run_start σ s at first h l =
    let o : 1 + (at - at) ≡ 1 = omega arith in
    record { more = omega arith; fits = h; small = l; goes = rw o refl }

module _ (σ : Settings) (s : List ℕ) (at first i v : ℕ) (u : Bool) (r : Run σ s at first i v u) where
  counted :
      (m : Num) → digits σ u v (1 + (i - at)) (drop i s) ≡ m → 1 ≤ consumed m → consumed m ≤ 1 + (length s - at)
      → Counted (drop at s) (digits σ false first 1 (drop at s)) m
  counted m e k l = record { is = sym (r.goes ∙ e); some = k; fits = omega (arith, length-drop at s, r.fits) }

  -- the number ends at i
  ending :
      (m : Num) → digits σ u v (1 + (i - at)) (drop i s) ≡ m → consumed m ≡ 1 + (i - at)
      → Counted (drop at s) (digits σ false first 1 (drop at s)) m
  ending m e k = counted m e (omega arith) (omega (arith, r.fits))

  pub run_end :
      (m : Num) → length s ≤ i → m ≡ close u v (1 + (i - at)) → consumed m ≡ 1 + (i - at)
      → Counted (drop at s) (digits σ false first 1 (drop at s)) m
  unfolding digits
  run_end m h e k = ending m (rw (drop_of_length-le s h) (sym e)) k

  module _ (h : i < length s) where
    step : 1 + (i + 1 - at) ≡ suc (1 + (i - at))
    step = omega (arith, r.more)

    -- a second underscore is refused, another goes on
    pub run_double : get_or s i 0 ≡ byte "_" → u && σ.strict_digits ≡ true
        → Counted (drop at s) (digits σ false first 1 (drop at s)) (Double (1 + (i - at)))
    run_double e p =
        counted (Double (1 + (i - at))) (rw (drop-cons s i 0 h, e) (under_twice σ u v (1 + (i - at)) (drop (suc i) s) p))
        (omega arith) (omega (arith, r.more))

    pub run_under : get_or s i 0 ≡ byte "_" → u && σ.strict_digits ≡ false → Run σ s at first (i + 1) v true
    run_under e p = record {
      more = omega (arith, r.more);
      fits = omega arith;
      small = r.small;
      goes = rw (r.goes, drop-cons s i 0 h, e, step, add-one i) (under σ u v (1 + (i - at)) (drop (suc i) s) p);
    }

    module _ (x : get_or s i 0 ≡ byte "_" → ⊥) where
      pub run_stop :
          (m : Num) → hex_of (get_or s i 0) ≡ none → m ≡ close u v (1 + (i - at)) → consumed m ≡ 1 + (i - at)
          → Counted (drop at s) (digits σ false first 1 (drop at s)) m
      run_stop m e q k =
          let b = get_or s i 0 in
          let t = drop (suc i) s in
          ending m (rw (drop-cons s i 0 h)
          (on_stop σ u v (1 + (i - at)) (b ∷ t) (λ g. goes_split b t g (no_digit b e) x) ∙ sym q)) k

      module _ (d : ℕ) (e : hex_of (get_or s i 0) ≡ some d) where
        pub run_digit : (w : ℕ) → w ≡ d → v < 0x10000000 → Run σ s at first (i + 1) (v * 16 + w) false
        run_digit w q l =
            let y = of_hex (get_or s i 0) d e in
            let z = hex_small y in
            let a : v * 16 + d < 2 ^ 32 = omega arith in
            record {
              more = omega (arith, r.more);
              fits = omega arith;
              small = omega arith;
              goes = rw (r.goes, drop-cons s i 0 h, step, add-one i, q) (on_digit σ u v (1 + (i - at)) (drop (suc i) s) y a);
            }

        pub run_big : 0x10000000 ≤ v → Counted (drop at s) (digits σ false first 1 (drop at s)) (Big (1 + (i - at)))
        run_big l =
            let a : v * 16 + d < 2 ^ 32 → ⊥ = λ g. omega arith in
            counted (Big (1 + (i - at)))
            (rw (drop-cons s i 0 h) (on_big σ u v (1 + (i - at)) (drop (suc i) s) (of_hex (get_or s i 0) d e) a))
            (omega arith) (omega (arith, r.more))

-- what the loop keeps, and its answers
pub ruleset runs =
    (run_start, run_end, run_double, run_under, run_stop, run_digit, run_big)
