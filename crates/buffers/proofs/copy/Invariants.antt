use Rattle.std.proofs.Common.{◌≡◌, ◌≤◌, drop}
use Rattle.std.proofs.Math.Seq.{paste}
use Rattle.buffers.proofs.copy.Given as goal

-- the first k bytes of what is to be copied stand in the buffer
abbrev pub invariant-loop-k : goal.invariant-loop-k
invariant-loop-k l = (l.k ≤ l.n) × (l.dst ≡ paste l.fn.dst l.to (drop l.from l.src) l.k)
