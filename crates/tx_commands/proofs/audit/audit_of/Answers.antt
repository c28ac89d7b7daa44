use Rattle.std.proofs.Common.{codes, rules}
use Rattle.tx_commands.proofs.audit.audit_of.Goals as goal

pub returns-in_err-limits-clause-refused : goal.returns-in_err-limits-clause-refused
returns-in_err-limits-clause-refused c =
    let refused = c.in_err-limits.ensures.refused (codes "audit") in search rules

pub returns-in_err-down-clause-refused : goal.returns-in_err-down-clause-refused
returns-in_err-down-clause-refused c =
    let refused = c.in_err-down.ensures.refused (codes "audit") in search rules
