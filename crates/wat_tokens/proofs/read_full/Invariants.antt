-- The bytes that were read are at the buffer's front, and each turn reads at least one more.
use Rattle.std.proofs.Common.{length, ◌-◌, ◌≤◌}
use Rattle.wat_tokens.proofs.read_full.Given as goal

abbrev pub invariant-loop-done : goal.invariant-loop-done
invariant-loop-done g l = l.done ≤ length l.buffer

abbrev pub decreases-loop-done : goal.decreases-loop-done
decreases-loop-done g l = length l.buffer - l.done
