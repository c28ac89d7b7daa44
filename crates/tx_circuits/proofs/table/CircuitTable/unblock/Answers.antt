use Rattle.tx_circuits.proofs.Common.{◌∙◌, ap, remove, Table, table_of}
use Rattle.tx_circuits.proofs.Updates.{unblocked_is}
use Rattle.tx_circuits.proofs.Steps.{blocked_in}
use Rattle.tx_circuits.proofs.table.CircuitTable.unblock.Goals as goal

pub set_blocked-requires : goal.set_blocked-requires
set_blocked-requires g c = (let ts = c.self.inside.groups in blocked_in ts c.args.self.now c.self.view_is c.args.group c.requires)

pub returns : goal.returns
returns g c =
    let ts = c.self.inside.groups in
    ap table_of c.set_blocked.ensures ∙ unblocked_is ts c.args.group (blocked_in ts c.args.self.now c.self.view_is c.args.group c.requires) ∙ ap (λ (t : Table). record t { blocked = remove t.blocked c.args.group }) c.self.view_is
