use Rattle.tx_jobs.proofs.Common.{◌∙◌, ap, at_lf}
use Rattle.tx_jobs.proofs.Taking.{to_lf, to_end}
use Rattle.tx_jobs.proofs.seen.Seen.take_line.Goals as goal

pub returns-in-Some-clause-end : goal.returns-in-Some-clause-end
returns-in-Some-clause-end c = to_lf c.args.self.now c.at_lf.result c.args.bytes.now c.in-Some.len c.in-Some.ensures c.requires.going (c.at_lf.ensures ∙ ap at_lf c.with_bytes.ensures)

pub returns-in-None-clause-end : goal.returns-in-None-clause-end
returns-in-None-clause-end c = to_end c.args.self.now c.with_bytes-in-None.result c.args.bytes.now c.in-None.ensures c.requires.going c.with_bytes-in-None.ensures
