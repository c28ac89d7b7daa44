use Rattle.std.proofs.Common.{length}
use Rattle.tx_order.proofs.orders.+most.Given as goal

abbrev pub decreases-most : goal.decreases-most
decreases-most g l = length l.codes.now
