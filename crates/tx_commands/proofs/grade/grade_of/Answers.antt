use Rattle.std.proofs.Common.{codes, rules}
use Rattle.tx_commands.proofs.grade.grade_of.Goals as goal

pub returns-in_err-down-clause-refused : goal.returns-in_err-down-clause-refused
returns-in_err-down-clause-refused c =
    let refused = c.in_err-down.ensures.refused (codes "grade") in search rules
