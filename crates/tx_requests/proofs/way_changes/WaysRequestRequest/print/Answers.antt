use Rattle.tx_requests.proofs.Common.{sym, subst, AllByRecursion}
use Rattle.tx_files.specs.declared.two_plans.WithOld.{WithOld}
use Rattle.tx_trace.specs.WayChanges.{AreWaysIn}
use Rattle.tx_requests.proofs.way_changes.WaysRequestRequest.print.Goals as goal

pub write_way_changes-requires : goal.write_way_changes-requires
write_way_changes-requires g c =
    rw c.deref.ensures.value
    (subst (λ (t : WithOld g.row.A.Denot). AllByRecursion (AreWaysIn t.plan.plan t.old.plan) c.args.answer.now.1.items) (sym c.requires.2.0) c.requires.2.1.0)

pub returns : goal.returns
returns g c = rw c.deref.ensures.value at c.write_way_changes.ensures
