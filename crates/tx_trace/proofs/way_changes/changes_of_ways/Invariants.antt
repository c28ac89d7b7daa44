use Rattle.tx_trace.proofs.Common.{◌≡◌, map, AllByRecursion, flat_map, range_with_len, changed_for, AreWaysIn, calls_of}
use Rattle.tx_trace.proofs.way_changes.changes_of_ways.Given as goal

abbrev pub invariant-loop-index : goal.invariant-loop-index
invariant-loop-index g l = record {
  ways : AllByRecursion (AreWaysIn l.plan l.old) l.found.items;
  calls : map calls_of l.found.items ≡ flat_map (changed_for l.plan l.old) (range_with_len 0 l.index);
}
