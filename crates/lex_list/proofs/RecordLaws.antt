-- A record is its length in four bytes and its kind in two. Assumes nothing.
use Prim.Native.Nat.{ℕ, ◌%◌, ◌/◌, ◌^◌}
use mathlib.Core.Path.{◌≡◌, ◌∙◌}
use mathlib.Core.List.{List, ◌++◌}
use native.Mathlib.Omega.{arith}
use Rattle.std.specs.Int.{to_le_bytes, w16, w32}
use Rattle.wat.specs.Division.{little}
use Rattle.buffers.specs.Writing.{Put, Added}
use Rattle.buffers.proofs.AddedLaws.{added_same, added_then}

four : (n : ℕ) → to_le_bytes w32 n ≡ little 4 n
four n =
    let b : n / 256 ^ 2 % 256 ≡ n / 256 / 256 % 256 = omega arith in
    let c : n / 256 ^ 3 % 256 ≡ n / 256 / 256 / 256 % 256 = omega arith in
    cc (b, c)

pub record_put : {d e f v w : List ℕ} {to m n : ℕ} (len k : ℕ) → v ≡ to_le_bytes w32 len → w ≡ to_le_bytes w16 k
    → Added d e to v m → Added e f m w n → Put d f to (little 4 len ++ little 2 k)
record_put len k p q a b = (added_then (added_same (p ∙ four len) a) (added_same q b)).put
