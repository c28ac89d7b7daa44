use Rattle.std.proofs.Common.{sym, subst}
use Rattle.tx_rank.specs.Rankings.{IsFound}
use Rattle.tx_audit.proofs.Found.{found_right, fails_right}
use Rattle.tx_audit.proofs.judging.judge.Goals as goal

pub returns-in-Found : goal.returns-in-Found
returns-in-Found g c =
    let r = c.in_ok-cert.ensures in
    found_right _ c.args.plan.now c.args.limits.limit c.args.limits.spare c.in-Found.cert (r.found.0 (subst IsFound (sym c.in-Found.is) tt)) (rw c.in-Found.is at r.heights) c.confirm.ensures

pub returns-in-Fails : goal.returns-in-Fails
returns-in-Fails g c =
    let r = c.in_ok-cert.ensures in
    fails_right _ c.args.plan.now c.args.limits.limit c.args.limits.spare c.in-Fails.findings (rw c.in-Fails.is at r.fails) (rw c.in-Fails.is at r.each) (rw c.in-Fails.is at r.listed) (rw c.in-Fails.is at r.wherever)
