use Rattle.tx_lint.proofs.Common.{◌≡◌, filter, range_with_len, is_mute}
use Rattle.tx_lint.proofs.warnings.mute_codes.Given as goal

abbrev pub invariant-loop-index : goal.invariant-loop-index
invariant-loop-index g l =
    l.found.items ≡ filter (is_mute l.plan l.exchange) (range_with_len 0 l.index)
