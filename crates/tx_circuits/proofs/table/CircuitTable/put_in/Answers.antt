use Rattle.tx_circuits.proofs.Common.{◌∙◌, ap, remove, Table, table_of}
use Rattle.tx_circuits.proofs.Updates.{put_in_is}
use Rattle.tx_circuits.proofs.Steps.{out_in}
use Rattle.tx_circuits.proofs.table.CircuitTable.put_in.Goals as goal

pub known_state-state-requires : goal.known_state-state-requires
known_state-state-requires g c = (let ts = c.self.inside.groups in out_in ts c.args.self.now c.self.view_is c.args.circuit.now c.requires)

pub set_state-requires : goal.set_state-requires
set_state-requires g c = (let ts = c.self.inside.groups in out_in ts c.args.self.now c.self.view_is c.args.circuit.now c.requires)

pub returns : goal.returns
returns g c =
    let ts = c.self.inside.groups in
    ap table_of c.set_state.ensures ∙ put_in_is ts c.args.circuit.now c.known_state-state.result c.known_state-state.ensures ∙ ap (λ (t : Table). record t { out = remove t.out c.args.circuit.now }) c.self.view_is
