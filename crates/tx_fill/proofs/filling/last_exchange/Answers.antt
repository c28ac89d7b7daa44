use Rattle.std.proofs.Common.{sym}
use Rattle.tx_machine.proofs.LastHop.{last_is}
use Rattle.tx_fill.proofs.filling.last_exchange.Goals as goal

pub returns-in-Some : goal.returns-in-Some
returns-in-Some c =
    sym (last_is c.args.start c.args.hops.now c.in-Some.hop.now (sym c.in-Some.ensures.value))
