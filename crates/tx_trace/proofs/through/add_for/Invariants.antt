use Rattle.tx_trace.proofs.Common.{◌≡◌, ◌++◌, flat_map, range_with_len, passing}
use Rattle.tx_trace.proofs.through.add_for.Given as goal

abbrev pub invariant-loop-index : goal.invariant-loop-index
invariant-loop-index g l =
    l.found.items ≡ l.initial.found.items ++ flat_map (passing l.plan l.through l.code) (range_with_len 0 l.index)
