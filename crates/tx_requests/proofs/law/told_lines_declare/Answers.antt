use Rattle.tx_requests.proofs.DeclaredLines.{codes_declared, groups_declared}
use Rattle.tx_requests.proofs.law.told_lines_declare.Goals as goal

pub returns-clause-codes : goal.returns-clause-codes
returns-clause-codes c = codes_declared

pub returns-clause-groups : goal.returns-clause-groups
returns-clause-groups c = groups_declared
