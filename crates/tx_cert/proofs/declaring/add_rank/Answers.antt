use Rattle.std.proofs.Common.{rules}
use Rattle.tx_cert.proofs.declaring.add_rank.Goals as goal

pub returns-clause-ok : goal.returns-clause-ok
returns-clause-ok g c = search rules
