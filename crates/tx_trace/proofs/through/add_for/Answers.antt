use Rattle.tx_trace.specs.Through.{passing}
use Rattle.tx_trace.proofs.Passing.{grown}
use Rattle.tx_trace.proofs.through.add_for.Goals as goal

pub loop-index-preserved : goal.loop-index-preserved
loop-index-preserved g c =
    grown (passing c.args.plan.now c.args.through.now c.args.code) c.args.found.now.items c.loop-index.found.items c.add.new.found.items c.loop-index.index c.of.result c.of.ensures c.loop-index.invariant c.in_ok-add.ensures
