use Rattle.tx_trace.proofs.Common.{puts_more, puts_all, puts_is, calls_of, change_of}
use Rattle.tx_trace.proofs.Changing.{flat_map-map}
use Rattle.tx_trace.proofs.way_changes_text.write_changes.Goals as goal

pub loop-i-preserved : goal.loop-i-preserved
loop-i-preserved g c =
    puts_more (λ w. change_of c.args.plan.now c.args.old.now (calls_of w)) c.args.changes.now c.loop-i-test.true c.index-changes-i.is c.loop-i.invariant c.write_change.ensures

pub returns : goal.returns
returns g c =
    puts_is (flat_map-map calls_of (change_of c.args.plan.now c.args.old.now) c.args.changes.now)
    (puts_all (λ w. change_of c.args.plan.now c.args.old.now (calls_of w)) c.args.changes.now c.loop-i-test.false c.loop-i.invariant)
