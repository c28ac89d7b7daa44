use Rattle.std.proofs.Common.{◌≡◌, ◌∙◌, true, false, sym}
use Rattle.tx_circuits.proofs.Steps.{seized_ends, seized_none}
use Rattle.tx_circuits.proofs.table.CircuitTable.seizer.Goals as goal

pub seizer_of-requires : goal.seizer_of-requires
seizer_of-requires g c = λ y h. seized_ends c.self.inside.groups c.args.self.now c.self.view_is c.args.circuit.now y c.in-Some.head c.in-Some.ensures h

pub returns-in-None-clause-none : goal.returns-in-None-clause-none
returns-in-None-clause-none g c = λ e y s. let bad : true ≡ false = sym s.this ∙ seized_none c.self.inside.groups c.args.self.now c.self.view_is c.args.circuit.now y c.in-None.ensures in absurd cc
