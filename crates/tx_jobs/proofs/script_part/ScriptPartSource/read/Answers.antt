use Rattle.tx_jobs.proofs.Common.{sym, ◌∙◌, prepend_known}
use Rattle.tx_jobs.proofs.Taking.{split_known}
use Rattle.tx_jobs.proofs.script_part.ScriptPartSource.read.Goals as goal

pub returns-clause-bytes : goal.returns-clause-bytes
returns-clause-bytes g c =
    let input = g.R.Source.rest c.refill.new.input in
    sym c.in_ok-refill.ensures.bytes ∙ split_known c.min-n.result c.refill.new.self.held input
    ∙ (λ i. prepend_known (sym c.give.ensures.given i) (prepend_known (sym c.give.ensures.left i) input))
