use Rattle.tx_order.proofs.Common.{◌≡◌, ◌≤◌, ◌-◌, length, levels_of, front_of, AreStages}
use Rattle.tx_order.proofs.joining.stages_of_code.Given as goal

abbrev pub invariant-loop-from : goal.invariant-loop-from
invariant-loop-from g l = record {
  stages : AreStages l.transition l.code l.ends;
  reached : front_of l.transition.limit l.ends (length l.ends) ≡ l.from;
  within : l.from ≤ levels_of l.transition.limit;
}

abbrev pub decreases-loop-from : goal.decreases-loop-from
decreases-loop-from g l = l.last - l.from
