use Rattle.tx_circuits.proofs.Common.{◌∙◌, sym, ap, insert, with_state, change_at, Table, table_of}
use Rattle.tx_circuits.proofs.Updates.{seized_is}
use Rattle.tx_circuits.proofs.Steps.{circuit_is, end_is_there}
use Rattle.tx_circuits.proofs.table.CircuitTable.seize.Goals as goal

pub known_end-end-requires : goal.known_end-end-requires
known_end-end-requires g c = (let ts = c.self.inside.groups in sym (end_is_there ts c.args.self.now c.self.view_is c.args.circuit.now.group c.args.exchange) ∙ c.requires.may)

pub known_state-state-requires : goal.known_state-state-requires
known_state-state-requires g c = (let ts = c.self.inside.groups in sym (circuit_is ts c.args.self.now c.self.view_is c.args.circuit.now) ∙ c.requires.known)

pub set_state-requires : goal.set_state-requires
set_state-requires g c = (let ts = c.self.inside.groups in sym (circuit_is ts c.args.self.now c.self.view_is c.args.circuit.now) ∙ c.requires.known)

pub returns : goal.returns
returns g c =
    let ts = c.self.inside.groups in
    ap table_of (c.set_state.ensures ∙ ap (λ to. change_at (with_state c.args.circuit.now to) c.args.circuit.now.group ts) c.with_seized-to.ensures)
    ∙ seized_is ts c.args.circuit.now c.known_state-state.result c.known_state-state.ensures c.known_end-end.result c.args.exchange c.known_end-end.ensures
    ∙ ap (λ (t : Table). record t { seized = insert t.seized (c.args.circuit.now, c.args.exchange) }) c.self.view_is
