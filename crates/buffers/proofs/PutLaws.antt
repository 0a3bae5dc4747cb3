-- Laws of what is written into a lent buffer: what stands where, and that one write after another is one write. Assumes nothing.
use Prim.Native.Nat.{ℕ, ◌+◌, ◌≤◌, ◌<◌}
use mathlib.Core.Path.{◌≡◌, sym, ap, ◌∙◌}
use mathlib.Core.List.{List, [], ◌∷◌, ◌++◌, append_assoc}
use native.Mathlib.Omega.{arith}
use native.Mathlib.Numerals.{add-one}
use lib.ListN.{length, get_or, take, drop, set, length-append, length-drop}
use lib.Seq.{length-take-le, take_at, drop_at, drop-drop, sets, sets-eq, paste, paste-zero, paste-suc, get_or-drop}
use Rattle.buffers.specs.Writing.{Put}

-- nothing, and a run of stores

pub put_none : (d : List ℕ) (to : ℕ) → to ≤ length d → Put d d to []
put_none d to h = record { fits = omega arith; is = paste-zero d to [] }

pub put_stores : (d : List ℕ) (to : ℕ) (v : List ℕ) → to + length v ≤ length d → Put d (sets d to v) to v
put_stores d to v h = record { fits = h; is = sets-eq v d to h }

pub put_one : (d : List ℕ) (to b : ℕ) → to < length d → Put d (set d to b) to (b ∷ [])
put_one d to b h = put_stores d to (b ∷ []) (omega arith)

-- a turn of the loop that copies
pub copy_more :
    (d e : List ℕ) (to : ℕ) (s : List ℕ) (from k : ℕ) → to + k < length d → from + k < length s
    → e ≡ paste d to (drop from s) k
    → set e (to + k) (get_or s (from + k) 0) ≡ paste d to (drop from s) (k + 1)
copy_more d e to s from k h l q =
    rw (q, ← get_or-drop from s k 0, add-one k) (paste-suc d to (drop from s) k 0 h (omega (arith, length-drop from s)))

module _ (d e : List ℕ) (to : ℕ) (v : List ℕ) (p : Put d e to v) where
  head_length : length (take to d ++ v) ≡ to + length v
  head_length = simp length-append (omega (arith, p.fits, length-take-le to d (omega (arith, p.fits))))

  -- what stands up to the end of what is written
  pub put_front : take (to + length v) e ≡ take to d ++ v
  put_front = ap (take (to + length v)) p.is ∙ take_at (take to d ++ v) (drop (to + length v) d) (to + length v) head_length

  pub put_back : drop (to + length v) e ≡ drop (to + length v) d
  put_back = ap (drop (to + length v)) p.is ∙ drop_at (take to d ++ v) (drop (to + length v) d) (to + length v) head_length

  pub put_length : length e ≡ length d
  put_length =
      ap length p.is ∙ length-append (take to d ++ v) (drop (to + length v) d)
      ∙ omega (arith, head_length, length-drop (to + length v) d, p.fits)

  pub put_then : (f w : List ℕ) → Put e f (to + length v) w → Put d f to (v ++ w)
  put_then f w q =
      let l = length-append v w in
      let n : to + length (v ++ w) ≡ to + length v + length w = omega arith in
      let a : drop (to + length v + length w) e ≡ drop (to + length v + length w) d =
      sym (drop-drop (length w) (to + length v) e) ∙ ap (drop (length w)) put_back ∙ drop-drop (length w) (to + length v) d in
      record {
        fits = omega (arith, q.fits, put_length);
        is = q.is ∙ rw (n, a, put_front, append_assoc (take to d) v w);
      }

  -- one byte more
  pub put_byte : (i b : ℕ) → i ≡ to + length v → i < length d → Put d (set e i b) to (v ++ (b ∷ []))
  put_byte i b q h =
      let l : to + length v < length e = omega (arith, put_length) in
      put_then (set e i b) (b ∷ []) (rw q (put_one e (to + length v) b l))
