use Rattle.std.proofs.Common.{◌∙◌, sym}
use Rattle.tx_requests.proofs.page.PageRequestRequest.end.Goals as goal

pub returns-then-safe : goal.returns-then-safe
returns-then-safe g c =
    rw (sym c.is_safe-safe.ensures ∙ c.if-safe.true) (c.of.ensures.status, c.of.ensures.made)

pub returns : goal.returns
returns g c =
    rw (sym c.is_safe-safe.ensures ∙ c.if-safe.false)
    (c.of-else-safe.ensures.status, c.of-else-safe.ensures.made)
