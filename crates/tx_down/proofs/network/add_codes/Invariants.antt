use Rattle.tx_down.proofs.Common.{◌≡◌, take, its_exchanges}
use Rattle.tx_down.proofs.network.add_codes.Given as goal

abbrev pub invariant-loop-index : goal.invariant-loop-index
invariant-loop-index g l = l.builder ≡ record (its_exchanges l.from) { codes = take l.index l.from.codes }
