use Rattle.tx_down.proofs.Common.{◌≡◌, take, no_plan}
use Rattle.tx_down.proofs.network.add_exchanges.Given as goal

abbrev pub invariant-loop-index : goal.invariant-loop-index
invariant-loop-index g l = l.builder ≡ record no_plan { exchanges = take l.index l.from.exchanges }
