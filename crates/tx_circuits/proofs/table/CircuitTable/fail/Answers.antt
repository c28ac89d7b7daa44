use Rattle.tx_circuits.proofs.Common.{◌∙◌, ℕ, ◌<◌, true, length, sym, ap, subst, Table, with_failure, table_of, with_failed, change_at}
use Rattle.tx_circuits.proofs.FreeLists.{length-change}
use Rattle.tx_circuits.proofs.Updates.{failure_is, clear_group}
use Rattle.tx_circuits.proofs.Steps.{group_in}
use Rattle.tx_circuits.proofs.table.CircuitTable.fail.Goals as goal

pub set_failed-requires : goal.set_failed-requires
set_failed-requires g c =
    let ts = c.self.inside.groups in
    subst (λ (n : ℕ). c.args.group < n) (sym (ap length c.clear.ensures ∙ length-change clear_group c.args.group ts)) (group_in ts c.args.self.now c.self.view_is c.args.group c.requires.known)

pub returns : goal.returns
returns g c =
    let ts = c.self.inside.groups in
    ap table_of (c.set_failed.ensures ∙ ap (change_at (with_failed true) c.args.group) c.clear.ensures) ∙ failure_is ts c.args.group (group_in ts c.args.self.now c.self.view_is c.args.group c.requires.known)
    ∙ ap (λ (t : Table). with_failure t c.args.group) c.self.view_is
