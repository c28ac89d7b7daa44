use Rattle.tx_commands.proofs.Common.{◌≡◌, drop, is_among, values_of, is_same_file}
use Rattle.tx_commands.proofs.known_file.first_as.Given as goal

-- it is so of all files exactly where it is so of those that are left
abbrev pub invariant-loop-i : goal.invariant-loop-i
invariant-loop-i l =
    is_among is_same_file (values_of l.files) l.file
    ≡ is_among is_same_file (values_of (drop l.i l.files)) l.file
