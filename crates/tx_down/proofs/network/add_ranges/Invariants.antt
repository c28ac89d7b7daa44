use Rattle.tx_down.proofs.Common.{◌≡◌, take, its_codes}
use Rattle.tx_down.proofs.network.add_ranges.Given as goal

abbrev pub invariant-loop-index : goal.invariant-loop-index
invariant-loop-index g l = l.builder ≡ record (its_codes l.from) { ranges = take l.index l.from.ranges }
