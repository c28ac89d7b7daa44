use Rattle.tx_requests.proofs.Common.{refl, exits_with}
use Rattle.tx_requests.proofs.way_changes.WaysRequestRequest.answer.Goals as goal

pub returns : goal.returns
returns g c = (refl, c.in_ok-changes.ensures)

pub returns-in_err-changes : goal.returns-in_err-changes
returns-in_err-changes g c =
    rw (exits_with c.from_residual.result c.in_err-changes.field-0.0 c.from_residual.ensures.1)
    c.in_err-changes.ensures
