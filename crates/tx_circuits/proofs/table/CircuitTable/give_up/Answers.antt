use Rattle.tx_circuits.proofs.Common.{◌∙◌, true, false, sym, ap, option_map_or, CircuitState, has_seized, end_at, with_state, change_at, Table, withdrawn, released_unless, table_of}
use Rattle.tx_circuits.proofs.GivenUp.{kept_is, given_up_is}
use Rattle.tx_circuits.proofs.Steps.{seat_in}
use Rattle.tx_circuits.proofs.table.CircuitTable.give_up.Goals as goal
use Rattle.tx_circuits.proofs.table.CircuitTable.give_up.Goals.{then-seizes_in, else-seizes_in}

pub known_end-end-requires : goal.known_end-end-requires
known_end-end-requires g c = (let ts = c.self.inside.groups in (seat_in ts c.args.self.now c.self.view_is c.args.circuit.now c.args.exchange c.requires).1)

pub known_state-requires : goal.known_state-requires
known_state-requires g c = (let ts = c.self.inside.groups in (seat_in ts c.args.self.now c.self.view_is c.args.circuit.now c.args.exchange c.requires).0)

pub set_state-requires : goal.set_state-requires
set_state-requires g c = (let ts = c.self.inside.groups in (seat_in ts c.args.self.now c.self.view_is c.args.circuit.now c.args.exchange c.requires).0)

pub returns : goal.returns
returns g c =
    let ts = c.self.inside.groups in
    let x = c.args.circuit.now in
    let end = c.known_end-end.result in
    let left = c.with_seized-left.ensures in
    let far = c.seizes_in.ensures ∙ ap (λ (s : CircuitState). option_map_or (λ e. has_seized e s) (end_at ts x.group c.args.far) false) left in
    let viewed = ap (λ (t : Table). released_unless c.args.far x (withdrawn t x c.args.exchange)) c.self.view_is in
    elim c.if-seizes_in.branch [
      | then-seizes_in w ↦
          ap table_of (c.set_state.ensures ∙ ap (λ (s : CircuitState). change_at (with_state x s) x.group ts) (w.to-is ∙ left))
          ∙ kept_is ts x c.known_state.result c.known_state.ensures end c.args.exchange c.known_end-end.ensures c.args.far (sym far ∙ w.if-seizes_in.true) ∙ viewed
      | else-seizes_in w ↦
          ap table_of (c.set_state.ensures ∙ ap (λ (s : CircuitState). change_at (with_state x s) x.group ts) (w.to-is ∙ w.in_release-to.ensures ∙ ap (λ (s : CircuitState). record s { carried = false; releasing = true }) left))
          ∙ given_up_is ts x c.known_state.result c.known_state.ensures end c.args.exchange c.known_end-end.ensures c.args.far (sym far ∙ w.if-seizes_in.false) ∙ viewed
    ]
