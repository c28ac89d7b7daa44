use Rattle.tx_circuits.proofs.Common.{◌∙◌, sym, ap, CircuitState, with_state, change_at, Table, with_released, table_of}
use Rattle.tx_circuits.proofs.Updates.{released_is}
use Rattle.tx_circuits.proofs.Steps.{circuit_is}
use Rattle.tx_circuits.proofs.table.CircuitTable.release.Goals as goal

pub known_state-requires : goal.known_state-requires
known_state-requires g c = (let ts = c.self.inside.groups in sym (circuit_is ts c.args.self.now c.self.view_is c.args.circuit.now) ∙ c.requires.known)

pub set_state-requires : goal.set_state-requires
set_state-requires g c = (let ts = c.self.inside.groups in sym (circuit_is ts c.args.self.now c.self.view_is c.args.circuit.now) ∙ c.requires.known)

pub returns : goal.returns
returns g c =
    let ts = c.self.inside.groups in
    let x = c.args.circuit.now in
    ap table_of (c.set_state.ensures ∙ ap (λ (s : CircuitState). change_at (with_state x s) x.group ts) c.in_release-to.ensures) ∙ released_is ts x c.known_state.result c.known_state.ensures ∙ ap (λ (t : Table). with_released t x) c.self.view_is
