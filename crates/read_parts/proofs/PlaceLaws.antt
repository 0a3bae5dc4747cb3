-- Places in a text by what is left there up to an end: what stands between two of them, and how far apart they are. Assumes nothing.
use Prim.Native.Nat.{ℕ, ◌+◌, ◌≤◌}
use mathlib.Core.Path.{◌≡◌, sym, ap, ◌∙◌}
use mathlib.Core.List.{List, ◌++◌}
use native.Mathlib.Omega.{arith}
use lib.ListN.{length, take, drop, length-append, take-append-drop}
use lib.Seq.{slice, length-slice, take-take, drop-drop, take-append-add, take-append_seam, drop-append_seam, drop_at, length-take-le}
use Rattle.read_parts.specs.Handing.{Left}

module _ (text : List ℕ) (end : ℕ) (fits : end ≤ length text) where
  -- how far one place is from another
  pub apart : (i j : ℕ) (a b : List ℕ) → Left text end (a ++ b) i → Left text end b j → j ≡ i + length a
  apart i j a b l m =
      let p = length-slice i end text fits in
      let q = length-slice j end text fits in
      omega (arith, l.within, m.within, length-append a b, ap length l.same, ap length m.same)

  -- what stands between them
  pub between : (i j : ℕ) (a b : List ℕ) → Left text end (a ++ b) i → Left text end b j → slice i j text ≡ a
  between i j a b l m =
      let q = apart i j a b l m in
      let h = m.within in
      let n : length (take i (take end text)) ≡ i =
      length-take-le i (take end text) (omega (arith, length-take-le end text fits, l.within)) in
      let k : j ≡ length (take i (take end text)) + length a = omega arith in
      let t : take j text ≡ take i (take end text) ++ a =
      sym (take-take j end text h)
      ∙ ap (take j) (sym (take-append-drop i (take end text)) ∙ ap (λ (z : List ℕ). take i (take end text) ++ z) l.same)
      ∙ ap (λ (z : ℕ). take z (take i (take end text) ++ (a ++ b))) k
      ∙ take-append-add (take i (take end text)) (a ++ b) (length a)
      ∙ ap (λ (z : List ℕ). take i (take end text) ++ z) (take-append_seam a b) in
      ap (drop i) t ∙ drop_at (take i (take end text)) a i n

  -- a place further on
  pub further : (i j : ℕ) (a b : List ℕ) → Left text end (a ++ b) i → j ≡ i + length a → Left text end b j
  further i j a b l q =
      let n = length-append a b in
      let w = l.within in
      record {
        within = omega (arith, ap length l.same, length-slice i end text fits);
        same =
            ap (λ (z : ℕ). slice z end text) q ∙ sym (drop-drop (length a) i (take end text)) ∙ ap (drop (length a)) l.same
            ∙ drop-append_seam a b;
      }
