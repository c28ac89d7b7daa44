use Rattle.std.proofs.Common.{◌≡◌}
use Rattle.tx_join.proofs.NextDeclared.{codes_to}
use Rattle.tx_join.proofs.network.add_codes.Given as goal

abbrev pub invariant-loop-index : goal.invariant-loop-index
invariant-loop-index g l = l.builder ≡ codes_to l.initial.builder l.from l.index
