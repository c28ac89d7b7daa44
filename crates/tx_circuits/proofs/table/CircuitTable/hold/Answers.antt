use Rattle.tx_circuits.proofs.Common.{◌∙◌, ap, Table, with_held, table_of}
use Rattle.tx_circuits.proofs.Updates.{held_is}
use Rattle.tx_circuits.proofs.Steps.{seat_in}
use Rattle.tx_circuits.proofs.table.CircuitTable.hold.Goals as goal

pub known_state-state-requires : goal.known_state-state-requires
known_state-state-requires g c = (let ts = c.self.inside.groups in (seat_in ts c.args.self.now c.self.view_is c.args.circuit.now c.requires.0 c.requires.1.this).0)

pub set_state-requires : goal.set_state-requires
set_state-requires g c = (let ts = c.self.inside.groups in (seat_in ts c.args.self.now c.self.view_is c.args.circuit.now c.requires.0 c.requires.1.this).0)

pub returns : goal.returns
returns g c =
    let ts = c.self.inside.groups in
    ap table_of c.set_state.ensures ∙ held_is ts c.args.circuit.now c.known_state-state.result c.known_state-state.ensures ∙ ap (λ (t : Table). with_held t c.args.circuit.now) c.self.view_is
