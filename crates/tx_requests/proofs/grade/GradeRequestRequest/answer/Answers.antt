use Rattle.std.proofs.Common.{refl}
use Rattle.tx_requests.proofs.Grading.{plan_is}
use Rattle.tx_requests.proofs.grade.GradeRequestRequest.answer.Goals as goal

pub returns : goal.returns
returns g c =
    let e = c.in_ok-grade.ensures in
    let grade = c.in_ok-grade.grade in
    let plan = plan_is _ c.args.texts c.requires grade.findings.items grade.plan
    e.plan e.clear e.fails e.clean e.each e.listed in
    (refl, (plan, e.codes))
