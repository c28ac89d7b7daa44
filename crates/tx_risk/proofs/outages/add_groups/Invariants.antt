use Rattle.tx_risk.proofs.Common.{◌≡◌, ◌++◌, map, range_with_len, Group}
use Rattle.tx_risk.proofs.outages.add_groups.Given as goal

abbrev pub invariant-loop-index : goal.invariant-loop-index
invariant-loop-index g l =
    l.outages.items ≡ l.initial.outages.items ++ map Group (range_with_len 0 l.index)
