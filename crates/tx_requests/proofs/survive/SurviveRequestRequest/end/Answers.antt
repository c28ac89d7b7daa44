use Rattle.tx_requests.proofs.Common.{◌∙◌}
use Rattle.tx_requests.proofs.Surviving.{as_byte}
use Rattle.tx_requests.proofs.survive.SurviveRequestRequest.end.Goals as goal

pub returns : goal.returns
returns g c =
    let status = c.of.ensures.status ∙ c.from.ensures ∙ as_byte c.is_denied.result in
    (rw c.is_denied.ensures at status, c.of.ensures.made)
