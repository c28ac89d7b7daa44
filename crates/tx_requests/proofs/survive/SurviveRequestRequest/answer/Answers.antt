use Rattle.std.proofs.Common.{refl}
use Rattle.tx_requests.proofs.Surviving.{survival_is}
use Rattle.tx_requests.proofs.survive.SurviveRequestRequest.answer.Goals as goal

pub returns : goal.returns
returns g c =
    let e = c.in_ok-survival.ensures in
    let t = c.args.texts in
    let right = survival_is _ t.plan t.risks c.named_only-only.result c.in_ok-survival.survival
    e.tried e.outcomes e.ungraded e.codes e.fails e.each e.listed in
    (refl, rw c.named_only-only.ensures at right)
