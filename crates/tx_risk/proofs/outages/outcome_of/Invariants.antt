use Rattle.tx_risk.proofs.Common.{◌≤◌, length, risk_of, AreCutsBelow}
use Rattle.std.proofs.Common.{◌*◌}
use Rattle.tx_risk.proofs.outages.outcome_of.Given as goal

abbrev pub invariant-loop-index : goal.invariant-loop-index
invariant-loop-index g l = record {
  below : AreCutsBelow l.plan (risk_of l.plan l.risks l.outage) l.outage l.legs.items l.index l.cuts.items;
  few : length l.legs.items ≤ 256 * l.index;
}
