use Rattle.tx_files.proofs.Common.{◌≡◌, drop, find, names_of, is_within}
use Rattle.tx_files.proofs.missing.first_within.Given as goal

abbrev pub invariant-loop-index : goal.invariant-loop-index
invariant-loop-index g l =
    find (is_within l.most l.word) (names_of l.plan l.named)
    ≡ find (is_within l.most l.word) (drop l.index (names_of l.plan l.named))
