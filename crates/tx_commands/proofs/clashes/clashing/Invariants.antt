use Rattle.tx_commands.proofs.Common.{◌≡◌, ◌∷◌, bytes_eq, drop, has_clash}
use Rattle.tx_commands.specs.Files.{names, standard_input}
use Rattle.tx_commands.proofs.clashes.clashing.Given as goal

-- it is so of all files exactly where it is so of those that are left
abbrev pub invariant-loop-i : goal.invariant-loop-i
invariant-loop-i l =
    has_clash bytes_eq (standard_input ∷ names l.read) (names l.made)
    ≡ has_clash bytes_eq (standard_input ∷ names l.read) (names (drop l.i l.made))
