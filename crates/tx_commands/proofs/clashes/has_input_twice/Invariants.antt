use Rattle.tx_commands.proofs.Common.{◌≡◌, drop, names}
use Rattle.tx_commands.specs.Clashes.{has_input_twice}
use Rattle.tx_commands.proofs.clashes.has_input_twice.Given as goal

-- it is so of all files exactly where it is so of those that are left
abbrev pub invariant-loop-i : goal.invariant-loop-i
invariant-loop-i l = has_input_twice (names l.files) ≡ has_input_twice (names (drop l.i l.files))
