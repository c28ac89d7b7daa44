use Rattle.tx_risk.proofs.Common.{◌≡◌, map, take, AllByRecursion, IsOutcome}
use Rattle.tx_risk.proofs.outages.all_outcomes.Given as goal

abbrev pub invariant-loop-i : goal.invariant-loop-i
invariant-loop-i g l = record {
  outages : map (λ o. o.outage) l.outcomes.items ≡ take l.i l.outages.items;
  each : AllByRecursion (IsOutcome l.plan l.risks) l.outcomes.items;
}
