use Rattle.std.specs.Prelude.{◌≡◌, filter}
use Rattle.tx_files.proofs.Common.{range_with_len, is_down}
use Rattle.tx_files.proofs.left.groups_down.Given as goal

abbrev pub invariant-loop-index : goal.invariant-loop-index
invariant-loop-index g l =
    l.groups.items ≡ filter (is_down l.plan l.down) (range_with_len 0 l.index)
