use Rattle.std.proofs.Common.{◌≡◌, ◌*◌, ◌^◌, ◌≤◌, take, length}
use Rattle.std.specs.Prelude.{sum_by}
use Rattle.tx_risk_report.proofs.totals.count_all.Given as goal

abbrev pub invariant-loop-i : goal.invariant-loop-i
invariant-loop-i g l = record {
  so_far : l.count ≡ sum_by (λ o. length o.cuts.items) (take l.i l.outcomes);
  few : l.count ≤ l.i * 2 ^ 64;
}
