use Rattle.tx_lint.proofs.Common.{◌≡◌, ◌++◌, map, flat_map, range_with_len}
use Rattle.tx_lint.proofs.Warned.{ambiguous_with}
use Rattle.tx_lint.proofs.warnings.add_ambiguous.Given as goal

abbrev pub invariant-loop-index : goal.invariant-loop-index
invariant-loop-index g l = l.found.items ≡ l.initial.found.items
    ++ map (λ w. (l.line, w)) (flat_map (ambiguous_with l.plan l.code) (range_with_len 0 l.index))
