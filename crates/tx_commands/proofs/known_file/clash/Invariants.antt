use Rattle.tx_commands.proofs.Common.{◌≡◌, drop, has_clash, values_of, is_same_file}
use Rattle.tx_commands.proofs.known_file.clash.Given as goal

-- it is so of all files exactly where it is so of those that are left
abbrev pub invariant-loop-i : goal.invariant-loop-i
invariant-loop-i l =
    has_clash is_same_file (values_of l.read) (values_of l.made)
    ≡ has_clash is_same_file (values_of l.read) (values_of (drop l.i l.made))
