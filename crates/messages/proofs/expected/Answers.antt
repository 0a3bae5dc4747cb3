-- Three texts one behind the other.
use Rattle.std.proofs.Common.{rules}
use Rattle.buffers.proofs.AddedLaws.{added_then}
use Rattle.messages.proofs.expected.Goals as goal

pub returns : goal.returns
returns c = search (rules, added_then)
