use Rattle.tx_lint.proofs.Common.{◌≡◌, filter, range_with_len, is_idle, coming_of}
use Rattle.tx_lint.proofs.warnings.idle_codes.Given as goal

abbrev pub invariant-loop-index : goal.invariant-loop-index
invariant-loop-index g l = l.found.items
    ≡ filter (is_idle l.plan (coming_of l.marks) l.exchange) (range_with_len 0 l.index)
