use Rattle.tx_circuits.proofs.Common.{◌∙◌, ap, remove, Table, table_of}
use Rattle.tx_circuits.proofs.Updates.{restored_is}
use Rattle.tx_circuits.proofs.Steps.{failed_in}
use Rattle.tx_circuits.proofs.table.CircuitTable.restore.Goals as goal

pub set_failed-requires : goal.set_failed-requires
set_failed-requires g c = (let ts = c.self.inside.groups in failed_in ts c.args.self.now c.self.view_is c.args.group c.requires)

pub returns : goal.returns
returns g c =
    let ts = c.self.inside.groups in
    ap table_of c.set_failed.ensures ∙ restored_is ts c.args.group (failed_in ts c.args.self.now c.self.view_is c.args.group c.requires) ∙ ap (λ (t : Table). record t { failed = remove t.failed c.args.group }) c.self.view_is
