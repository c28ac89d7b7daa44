use Rattle.tx_fill.proofs.Common.{◌≡◌, filter, range_with_len, is_full}
use Rattle.tx_fill.proofs.filling.full_groups.Given as goal

abbrev pub invariant-loop-index : goal.invariant-loop-index
invariant-loop-index g l =
    l.full.items ≡ filter (is_full l.plan l.network.state) (range_with_len 0 l.index)
