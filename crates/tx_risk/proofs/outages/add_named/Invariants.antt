use Rattle.tx_risk.proofs.Common.{◌≡◌, ◌++◌, map, range_with_len, Named}
use Rattle.tx_risk.proofs.outages.add_named.Given as goal

abbrev pub invariant-loop-index : goal.invariant-loop-index
invariant-loop-index g l =
    l.outages.items ≡ l.initial.outages.items ++ map Named (range_with_len 0 l.index)
