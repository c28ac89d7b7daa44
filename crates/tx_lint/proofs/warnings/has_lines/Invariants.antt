use Rattle.tx_lint.proofs.Common.{◌≡◌, false, take, ◌==◌, list_any, LineRange}
use Rattle.tx_lint.proofs.warnings.has_lines.Given as goal

abbrev pub invariant-loop-index : goal.invariant-loop-index
invariant-loop-index g l =
    list_any (λ (r : LineRange). r.code == l.code) (take l.index l.plan.ranges) ≡ false
