-- The lead, and the rest behind it.
use Rattle.messages.specs.MessageModel.{message}
use Rattle.buffers.proofs.AddedLaws.{added_same, added_then}
use Rattle.messages.proofs.fmt.Goals as goal

pub returns : goal.returns
unfolding message
returns c = added_then (added_same c.lead.ensures.text c.append-at.ensures) c.rest.ensures
