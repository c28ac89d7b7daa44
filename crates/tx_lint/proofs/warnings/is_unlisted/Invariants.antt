use Rattle.tx_lint.proofs.Common.{◌≡◌, false, take, ◌==◌, list_any, Route}
use Rattle.tx_lint.proofs.warnings.is_unlisted.Given as goal

abbrev pub invariant-loop-index : goal.invariant-loop-index
invariant-loop-index g l =
    list_any (λ (r : Route). r.code == l.code) (take l.index l.plan.routes) ≡ false
