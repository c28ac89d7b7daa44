use Rattle.tx_lint.proofs.Common.{is_idle, coming_of}
use Rattle.tx_lint.proofs.Warned.{next_where}
use Rattle.tx_lint.proofs.warnings.idle_codes.Goals as goal

pub loop-index-preserved : goal.loop-index-preserved
loop-index-preserved g c =
    next_where (is_idle c.args.plan.now (coming_of c.args.marks.now) c.args.exchange) c.loop-index.index
    c.of-code.result c.is_idle-idle.result c.loop-index.found.items c.push_if.new.found.items
    c.loop-index.invariant c.is_idle-idle.ensures c.of-code.ensures c.in_ok-push_if.ensures
