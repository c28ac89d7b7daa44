use Rattle.tx_audit.proofs.Common.{◌≡◌, ◌==◌, drop, find, LineRange, first_range}
use Rattle.tx_audit.proofs.free_line.first_range.Given as goal

abbrev pub invariant-loop-index : goal.invariant-loop-index
invariant-loop-index g l = first_range l.plan l.code ≡ find (λ (r : LineRange). r.code == l.code) (drop l.index l.plan.ranges)
