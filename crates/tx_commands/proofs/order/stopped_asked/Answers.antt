use Rattle.std.proofs.Common.{codes, rules}
use Rattle.tx_commands.proofs.order.stopped_asked.Goals as goal

pub returns-in_err-stage-clause-refused : goal.returns-in_err-stage-clause-refused
returns-in_err-stage-clause-refused c =
    let refused = c.in_err-stage.ensures.refused (codes "order") in search rules

pub returns-in_err-limits-clause-refused : goal.returns-in_err-limits-clause-refused
returns-in_err-limits-clause-refused c =
    let refused = c.in_err-limits.ensures.refused (codes "order") in search rules
