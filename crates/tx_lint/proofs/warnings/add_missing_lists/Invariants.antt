use Rattle.tx_lint.proofs.Common.{◌≡◌, ◌++◌, map, flat_map, range_with_len}
use Rattle.tx_lint.proofs.Warned.{missing_list}
use Rattle.tx_lint.proofs.warnings.add_missing_lists.Given as goal

abbrev pub invariant-loop-index : goal.invariant-loop-index
invariant-loop-index g l = l.found.items ≡ l.initial.found.items
    ++ map (λ w. (l.line, w)) (flat_map (missing_list l.plan l.exchange) (range_with_len 0 l.index))
