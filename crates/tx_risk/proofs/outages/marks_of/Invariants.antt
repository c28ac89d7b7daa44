use Rattle.tx_risk.proofs.Common.{◌≤◌, length, vec_capacity, risk_of}
use Rattle.tx_risk.proofs.Marking.{AreMarksBelow}
use Rattle.tx_risk.proofs.outages.marks_of.Given as goal

abbrev pub invariant-loop-index : goal.invariant-loop-index
invariant-loop-index g l = record {
  so_far : AreMarksBelow (risk_of l.plan l.risks l.outage) l.index l.marks.items;
  room : length l.plan.groups ≤ vec_capacity l.marks;
}
