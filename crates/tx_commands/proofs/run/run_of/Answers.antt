use Rattle.std.proofs.Common.{codes, rules}
use Rattle.tx_commands.proofs.run.run_of.Goals as goal

pub returns-in_err-limits-in-Some-true-true-clause-refused : goal.returns-in_err-limits-in-Some-true-true-clause-refused
returns-in_err-limits-in-Some-true-true-clause-refused c =
    let refused = c.in_err-limits-in-Some-true-true.ensures.refused (codes "run") in search rules
