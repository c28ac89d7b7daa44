use Rattle.tx_circuits.proofs.Common.{◌∙◌, ap, insert, Table, table_of}
use Rattle.tx_circuits.proofs.Updates.{blocked_is}
use Rattle.tx_circuits.proofs.Steps.{group_in}
use Rattle.tx_circuits.proofs.table.CircuitTable.block.Goals as goal

pub returns : goal.returns
returns g c =
    let ts = c.self.inside.groups in
    ap table_of c.set_blocked.ensures ∙ blocked_is ts c.args.group (group_in ts c.args.self.now c.self.view_is c.args.group c.requires.known) ∙ ap (λ (t : Table). record t { blocked = insert t.blocked c.args.group }) c.self.view_is
