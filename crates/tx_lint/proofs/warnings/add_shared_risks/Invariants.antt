use Rattle.tx_lint.proofs.Common.{◌≡◌, ◌++◌, map, flat_map, range_with_len}
use Rattle.tx_lint.proofs.Warned.{shared_by}
use Rattle.tx_lint.proofs.warnings.add_shared_risks.Given as goal

abbrev pub invariant-loop-index : goal.invariant-loop-index
invariant-loop-index g l = l.found.items ≡ l.initial.found.items
    ++ map (λ w. (l.line, w)) (flat_map (shared_by l.plan l.risks l.groups) (range_with_len 0 l.index))
