use Rattle.tx_requests.proofs.Common.{refl, exits_with, memory_stop}
use Rattle.tx_mend.proofs.Right.{is_right}
use Rattle.tx_requests.proofs.mend.MendRequestRequest.answer.Goals as goal

pub returns : goal.returns
returns g c =
    let e = c.in_ok-mending.ensures in
    let limits = c.args.self.now.limits in
    let right = is_right _ c.args.texts.plan limits.limit limits.spare c.in_ok-mending.mending
    e.wherever e.routing e.mended e.before e.kept e.least e.confirmed e.same e.told e.missing e.pair in
    (refl, right)

pub returns-in_err-mending : goal.returns-in_err-mending
returns-in_err-mending g c =
    rw (exits_with c.from_residual.result memory_stop c.from_residual.ensures.1) refl
