use Rattle.std.proofs.Common.{length}
use Rattle.tx_audit.proofs.Taken.{IsTaken}
use Rattle.tx_audit.proofs.playing.take_tickets.Given as goal

abbrev pub invariant-loop-ticket : goal.invariant-loop-ticket
invariant-loop-ticket g l = IsTaken l.fn.network l.network l.tickets.items

abbrev pub decreases-loop-ticket : goal.decreases-loop-ticket
decreases-loop-ticket g l = length l.network.state.tickets
