use Rattle.tx_trace.proofs.Common.{◌≡◌, flat_map, range_with_len, passing_for}
use Rattle.tx_trace.proofs.through.calls_through.Given as goal

abbrev pub invariant-loop-index : goal.invariant-loop-index
invariant-loop-index g l =
    l.found.items ≡ flat_map (passing_for l.plan l.through) (range_with_len 0 l.index)
