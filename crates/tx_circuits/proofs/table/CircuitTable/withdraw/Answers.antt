use Rattle.tx_circuits.proofs.Common.{◌∙◌, ap, remove, with_state, change_at, Table, table_of}
use Rattle.tx_circuits.proofs.Updates.{withdrawn_is}
use Rattle.tx_circuits.proofs.Steps.{seat_in}
use Rattle.tx_circuits.proofs.table.CircuitTable.withdraw.Goals as goal

pub known_end-end-requires : goal.known_end-end-requires
known_end-end-requires g c = (let ts = c.self.inside.groups in (seat_in ts c.args.self.now c.self.view_is c.args.circuit.now c.args.exchange c.requires).1)

pub known_state-state-requires : goal.known_state-state-requires
known_state-state-requires g c = (let ts = c.self.inside.groups in (seat_in ts c.args.self.now c.self.view_is c.args.circuit.now c.args.exchange c.requires).0)

pub set_state-requires : goal.set_state-requires
set_state-requires g c = (let ts = c.self.inside.groups in (seat_in ts c.args.self.now c.self.view_is c.args.circuit.now c.args.exchange c.requires).0)

pub returns : goal.returns
returns g c =
    let ts = c.self.inside.groups in
    ap table_of (c.set_state.ensures ∙ ap (λ to. change_at (with_state c.args.circuit.now to) c.args.circuit.now.group ts) c.with_seized-to.ensures)
    ∙ withdrawn_is ts c.args.circuit.now c.known_state-state.result c.known_state-state.ensures c.known_end-end.result c.args.exchange c.known_end-end.ensures
    ∙ ap (λ (t : Table). record t { seized = remove t.seized (c.args.circuit.now, c.args.exchange) }) c.self.view_is
