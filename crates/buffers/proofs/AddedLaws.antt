-- Texts written one behind the other into a buffer, with the place where each ends. Assumes nothing.
use Prim.Native.Nat.{ℕ, ◌+◌, ◌≤◌, ◌<◌}
use mathlib.Core.Path.{◌≡◌, refl, subst}
use mathlib.Core.List.{List, [], ◌∷◌, ◌++◌}
use native.Mathlib.Omega.{arith}
use lib.ListN.{length, take, drop, set, length-append, length-drop}
use lib.Seq.{length-take-le, take-length}
use Rattle.buffers.specs.Writing.{Put, Added}
use Rattle.buffers.proofs.PutLaws as laws

-- a buffer keeps its length
pub added_length : {d e v : List ℕ} {to end : ℕ} → Added d e to v end → length e ≡ length d
added_length {d} {e} {v} {to} a = laws.put_length d e to v a.put

-- a text at the front
pub added_front : {d e v : List ℕ} {end : ℕ} → Added d e 0 v end → take end e ≡ v
added_front {d} {e} {v} a = rw a.ends (laws.put_front d e 0 v a.put)

pub added_same : {d e v w : List ℕ} {to end : ℕ} → v ≡ w → Added d e to v end → Added d e to w end
added_same {d} {e} {to = to} {end = end} q a = subst (λ (x : List ℕ). Added d e to x end) q a

-- a text behind a text
pub added_then : {d e f v w : List ℕ} {to m n : ℕ} → Added d e to v m → Added e f m w n → Added d f to (v ++ w) n
added_then {d} {e} {f} {v} {w} {to} {m} {n} a b =
    record {
      put = laws.put_then d e to v a.put f w (subst (λ (i : ℕ). Put e f i w) a.ends b.put);
      ends = omega (arith, length-append v w, a.ends, b.ends);
    }

-- one byte, and one byte more
pub added_one : (d : List ℕ) (to b : ℕ) → to < length d → Added d (set d to b) to (b ∷ []) (to + 1)
added_one d to b h = record { put = laws.put_one d to b h; ends = refl }

pub added_byte :
    {d e v : List ℕ} {to end : ℕ} (b : ℕ) → Added d e to v end → end < length d
    → Added d (set e end b) to (v ++ (b ∷ [])) (end + 1)
added_byte {d} {e} {v} {to} {end} b a h =
    record { put = laws.put_byte d e to v a.put end b a.ends h; ends = omega (arith, length-append v (b ∷ []), a.ends) }

-- a part of s, and all of it, copied
pub copied :
    (d e : List ℕ) (to : ℕ) (s : List ℕ) (from n : ℕ) → from + n ≤ length s → Put d e to (take n (drop from s))
    → Added d e to (take n (drop from s)) (to + n)
copied d e to s from n h p =
    record { put = p; ends = omega (arith, length-take-le n (drop from s) (omega (arith, length-drop from s))) }

pub copied_all : (d e : List ℕ) (to : ℕ) (s : List ℕ) → Put d e to (take (length s) (drop 0 s)) → Added d e to s (to + length s)
copied_all d e to s p = added_same (take-length s) (copied d e to s 0 (length s) (omega arith) p)
