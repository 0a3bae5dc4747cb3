-- Each call has fewer digits.
use Rattle.messages.proofs.+lower_hex.Given as goal

abbrev pub decreases-lower_hex : goal.decreases-lower_hex
decreases-lower_hex l = l.n
