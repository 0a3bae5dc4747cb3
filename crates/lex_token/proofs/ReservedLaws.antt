-- What a run of idchars and strings is, by its first idchars, its first string and the rest. Assumes nothing.
use Prim.Native.Nat.{ℕ, zero, suc, ◌+◌, ◌-◌, ◌<◌}
use mathlib.Core.Path.{◌≡◌, refl, sym, ap, ◌∙◌, subst}
use mathlib.Core.Bool.{Bool, true, false}
use mathlib.Core.List.{List, [], ◌∷◌, ◌++◌, append-nil, append_assoc}
use Rattle.std.specs.Prelude.{Some, None, Result, Ok, Err}
use native.Mathlib.Omega.{arith}
use native.Mathlib.Nat.{add-zero}
use lib.ListN.{length, get_or, take, drop}
use lib.Seq.{slice, length-slice, take-append-add}
use Rattle.wat.specs.declared.TokenKind.{TokenKind}
use Rattle.wat.specs.declared.TokenKind.TheVariants as kind
use Rattle.wat.specs.declared.Fault.{Fault}
use Rattle.wat.specs.Answers as answer
use Rattle.wat.specs.Bytes.{byte, Each}
use Rattle.wat.specs.declared.Settings.{Settings}
use Rattle.wat.specs.Settings.{lenient}
use Rattle.wat.specs.Utf8.{WellFormed}
use Rattle.wat.specs.Chars.{idchar}
use Rattle.wat.specs.Tokens.{Run}
use Rattle.wat.specs.NumberModel.{classify}
use Rattle.wat.specs.RunModel.{on, walk}
use Rattle.wat.specs.declared.Family.TheVariants.{Run as run}
use Rattle.wat.specs.LexModel.{family, word_kind, kind_of, run_by, lex_by, next}
use Rattle.wat.proofs.Runs.{run_stops}
use Rattle.wat.proofs.OneKind.{kind_word_lem}
use Rattle.wat_laws.proofs.SettingLaws.{str_lenient}
use Rattle.wat_laws.proofs.RunKinds.{quoted_by, kind_one_string, kind_more}
use Rattle.lex_numbers.proofs.SliceLaws.{at_byte}
use Rattle.lex_classes.specs.Scan.{Scanned}
use Rattle.lex_token.specs.Steps.{step_of}
use Rattle.lex_token.proofs.SliceLaws.{slice_split, slice_take, slice_join}
use Rattle.lex_token.proofs.StepLaws.{step_token, step_fault}
use Rattle.lex_token.proofs.RunLaws.{walked, Ran, ran_more, ran_walk, scanned_each, ran_idchars, idchars_stop, Quoted}
use Rattle.lex_token.proofs.LexLaws.{lex_family, Within, lex_within}
use Rattle.lex_strings.specs.Parsing.{Ends, StringFails}
use Rattle.lex_token.proofs.StringLaws.{parsed_closed, parsed_failed}
use Rattle.lex_token.proofs.WalkLaws.{stops_of, fails_of}

-- ---- the answer for a run, by where its walk ends

module _ (σ : Settings) (s : List ℕ) (at : ℕ) where
  pub step_stops :
      {n end : ℕ} {k : TokenKind}
      → walked σ (drop at s) ≡ Ok n → kind_of (take n (drop at s)) ≡ k → end ≡ at + n
      → Some (record { kind = k; end = end }) ≡ step_of at (lex_by σ run (drop at s))
  step_stops {n} e q l = step_token at (ap (run_by (drop at s)) e ∙ ap (λ (k : TokenKind). answer.Token k n) q) l

  pub step_fails : {f : Fault} → walked σ (drop at s) ≡ Err f → None ≡ step_of at (lex_by σ run (drop at s))
  step_fails e = step_fault at (ap (run_by (drop at s)) e)

-- ---- idchars alone

pub each_head : {f : ℕ → Bool} {b : Bool} {x : ℕ} {t : List ℕ} → Each f b (x ∷ t) → f x ≡ b
each_head (Each.next e r) = e

module _ (σ : Settings) (s : List ℕ) (at i : ℕ) (c : Scanned idchar true s at i) (g : WellFormed (drop at s))
    (q : next (byte "\"") (drop i s) ≡ false) where
  word_stops : walked σ (drop at s) ≡ Ok (i - at)
  word_stops =
      ran_walk (ran_idchars c {σ = σ} g)
      ∙ ap (on (i - at)) (run_stops (suc (length (drop i s))) Run.none (idchars_stop c q) (omega arith))
      ∙ ap Ok (add-zero (i - at))

  pub word_step :
      {k : TokenKind} → at < i → k ≡ word_kind (classify (slice at i s)) (get_or s at 0)
      → Some (record { kind = k; end = i }) ≡ step_of at (lex_by σ run (drop at s))
  word_step l e =
      step_stops σ s at word_stops (ap kind_of (slice_take s at i c.within (omega arith)) ∙ is ∙ sym e) (omega arith)
    where
      first : slice at i s ≡ get_or s at 0 ∷ slice (at + 1) i s
      first = at_byte s at i l c.within

      is : kind_of (slice at i s) ≡ word_kind (classify (slice at i s)) (get_or s at 0)
      is =
          let w : Each idchar true (get_or s at 0 ∷ slice (at + 1) i s) = rw first at (scanned_each c) in
          ap kind_of first ∙ kind_word_lem w (each_head w) ∙ ap (λ (z : List ℕ). word_kind (classify z) (get_or s at 0)) (sym first)

pub word_some :
    (s : List ℕ) (at i : ℕ)
    → Scanned idchar true s at i → WellFormed (drop at s) → next (byte "\"") (drop i s) ≡ false
    → at < length s → family (get_or s at 0) ≡ run → at < i
word_some s at i c g q h f =
    let e = lex_family lenient s at h f ∙ ap (run_by (drop at s)) (word_stops lenient s at i c g q) in
    let w : Within (drop at s) (answer.Token (kind_of (take (i - at) (drop at s))) (i - at)) =
    subst (Within (drop at s)) e (lex_within lenient g) in
    omega (arith, w.0)

pub word_fails :
    (σ : Settings) (s : List ℕ) (at i : ℕ) {f : Fault}
    → Scanned idchar true s at i → WellFormed (drop at s) → walked σ (drop i s) ≡ Err f
    → None ≡ step_of at (lex_by σ run (drop at s))
word_fails σ s at i c g e = step_fails σ s at (ran_walk (ran_idchars c {σ = σ} g) ∙ ap (on (i - at)) e)

-- ---- idchars, a string and what follows

-- a run that is not empty has bytes
rest_some : (σ : Settings) (n : ℕ) (t : List ℕ) → walked σ t ≡ Ok n → 0 < n → take n t ≡ [] → ⊥
unfolding walk
rest_some σ n [] e h z = let y : 0 ≡ n = cc in omega arith
rest_some σ zero (x ∷ t) e h z = omega arith
rest_some σ (suc n) (x ∷ t) e h z = let y : ◌≡◌ {A = ℕ} 0 1 = cc in omega arith

module _ (σ : Settings) (s : List ℕ) (at i j : ℕ) (c : Scanned idchar true s at i) (g : WellFormed (drop at s))
    (d : Quoted σ s i j) where
  ran : Ran σ s at j
  ran = ran_more (ran_idchars c g) d.ran

  pub string_fails : {f : Fault} → walked σ (drop j s) ≡ Err f → None ≡ step_of at (lex_by σ run (drop at s))
  string_fails e = step_fails σ s at (ran_walk ran ∙ ap (on (j - at)) e)

  -- the run's bytes
  bytes_of : (n : ℕ) → take (j - at + n) (drop at s) ≡ slice at i s ++ (slice i j s ++ take n (drop j s))
  bytes_of n =
      ap (take (j - at + n)) (slice_split s at j ran.within ran.onward)
      ∙ ap (λ (m : ℕ). take (m + n) (slice at j s ++ drop j s)) (sym (length-slice at j s ran.within))
      ∙ take-append-add (slice at j s) (drop j s) n
      ∙ ap (λ (z : List ℕ). z ++ take n (drop j s))
      (slice_join s at i c.within (omega (arith, c.end)) j d.ran.onward d.ran.within)
      ∙ append_assoc (slice at i s) (slice i j s) (take n (drop j s))

  module _ (n : ℕ) (e : walked σ (drop j s) ≡ Ok n) where
    string_stops : walked σ (drop at s) ≡ Ok (j - at + n)
    string_stops = ran_walk ran ∙ ap (on (j - at)) e

    pub string_step :
        {k : TokenKind} → n ≡ 0 → k ≡ quoted_by (slice at i s)
        → Some (record { kind = k; end = j }) ≡ step_of at (lex_by σ run (drop at s))
    string_step z q =
        let is : kind_of (take (j - at + n) (drop at s)) ≡ quoted_by (slice at i s) =
        ap kind_of (bytes_of n ∙ ap (λ (m : ℕ). slice at i s ++ (slice i j s ++ take m (drop j s))) z
        ∙ ap (λ (y : List ℕ). slice at i s ++ y) (append-nil (slice i j s)))
        ∙ kind_one_string (scanned_each c) (str_lenient d.is) in
        step_stops σ s at string_stops (is ∙ sym q) (omega (arith, ran.onward))

    pub more_step : {end : ℕ} → 0 < n → end ≡ j + n
        → Some (record { kind = kind.Reserved; end = end }) ≡ step_of at (lex_by σ run (drop at s))
    more_step h l =
        let more = kind_more (take n (drop j s)) (scanned_each c) (str_lenient d.is) (λ z. rest_some σ n (drop j s) e h z) in
        step_stops σ s at string_stops (ap kind_of (bytes_of n) ∙ more) (omega (arith, ran.onward))

-- by what the code asks: the idchars from `at` to i, whether a quotation mark follows, the string and the run behind it
module _ (σ : Settings) (s : List ℕ) (at i : ℕ) (b : Bool) (c : Scanned idchar true s at i)
    (q : b ≡ next (byte "\"") (drop i s)) (g : WellFormed (drop at s)) where
  pub word_here :
      (k : TokenKind) → k ≡ word_kind (classify (slice at i s)) (get_or s at 0) → b ≡ false → at < length s
      → family (get_or s at 0) ≡ run → Some (record { kind = k; end = i }) ≡ step_of at (lex_by σ run (drop at s))
  word_here k e n h f =
      let u = sym q ∙ n in
      word_step σ s at i c g u (word_some s at i c g u h f) e

  module _ (n : b ≡ true) where
    pub string_bad : (f : Fault) → StringFails σ s (i + 1) f → None ≡ step_of at (lex_by σ run (drop at s))
    string_bad f x = word_fails σ s at i c g (parsed_failed s i (sym q ∙ n) σ x refl).1

    module _ (j : ℕ) (x : Ends σ s (i + 1) j) where
      here : Quoted σ s i j
      here = parsed_closed s i (sym q ∙ n) σ x (ran_idchars c {σ = σ} g).formed refl

      pub rest_formed : WellFormed (drop j s)
      rest_formed = here.ran.formed

      -- where the run behind the string ends as z
      module _ (z : Result ℕ Fault) (w : z ≡ on j (walked σ (drop j s))) where
        pub rest_bad : (f : Fault) → z ≡ Err f → None ≡ step_of at (lex_by σ run (drop at s))
        rest_bad f y = string_fails σ s at i j c g here (fails_of j (walked σ (drop j s)) (sym w ∙ y)).1

        pub rest_none : (k : ℕ) (m : TokenKind) → z ≡ Ok k → k ≡ j → m ≡ quoted_by (slice at i s)
            → Some (record { kind = m; end = j }) ≡ step_of at (lex_by σ run (drop at s))
        rest_none k m y e l =
            let p = stops_of j (walked σ (drop j s)) (sym w ∙ y) in
            string_step σ s at i j c g here p.0 p.1 (omega (arith, p.2)) l

        pub rest_more : (k : ℕ) → z ≡ Ok k → (k ≡ j → ⊥)
            → Some (record { kind = kind.Reserved; end = k }) ≡ step_of at (lex_by σ run (drop at s))
        rest_more k y e =
            let p = stops_of j (walked σ (drop j s)) (sym w ∙ y) in
            more_step σ s at i j c g here p.0 p.1 (omega (arith, p.2)) p.2
