use Rattle.std.proofs.Common.{◌∙◌, sym}
use Rattle.tx_requests.proofs.auditing.AuditRequestRequest.end.Goals as goal

pub returns-then-is_safe : goal.returns-then-is_safe
returns-then-is_safe g c =
    rw (sym c.is_safe.ensures ∙ c.if-is_safe.true) (c.of.ensures.status, c.of.ensures.made)

pub returns : goal.returns
returns g c =
    rw (sym c.is_safe.ensures ∙ c.if-is_safe.false)
    (c.of-else-is_safe.ensures.status, c.of-else-is_safe.ensures.made)
