use Rattle.tx_trace.proofs.Common.{◌≡◌, ◌++◌, map, AllByRecursion, flat_map, range_with_len, changed_at, AreWaysIn, calls_of}
use Rattle.tx_trace.proofs.way_changes.add_for.Given as goal

abbrev pub invariant-loop-index : goal.invariant-loop-index
invariant-loop-index g l = record {
  ways : AllByRecursion (AreWaysIn l.plan l.old) l.found.items;
  calls : map calls_of l.found.items ≡ map calls_of l.initial.found.items ++ flat_map (changed_at l.plan l.old l.code) (range_with_len 0 l.index);
}
