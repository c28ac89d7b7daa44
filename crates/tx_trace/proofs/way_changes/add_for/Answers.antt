use Rattle.tx_trace.proofs.Common.{map, changed_at, calls_of}
use Rattle.tx_trace.proofs.Passing.{grown}
use Rattle.tx_trace.proofs.way_changes.add_for.Goals as goal

pub loop-index-preserved : goal.loop-index-preserved
loop-index-preserved g c = record {
  ways = c.in_ok-add_at.ensures.ways;
  calls = grown (changed_at c.args.plan.now c.args.old.now c.args.code) (map calls_of c.args.found.now.items) (map calls_of c.loop-index.found.items) (map calls_of c.add_at.new.found.items) c.loop-index.index c.of-exchange.result c.of-exchange.ensures c.loop-index.invariant.calls c.in_ok-add_at.ensures.calls;
}
