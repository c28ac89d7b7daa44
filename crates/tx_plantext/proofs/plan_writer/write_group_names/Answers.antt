use Rattle.tx_plantext.proofs.Common.{◌++◌, codes, group_name}
use Rattle.tx_text.proofs.Putting.{puts_then, puts_more}
use Rattle.tx_plantext.proofs.plan_writer.write_group_names.Goals as goal

pub loop-i-preserved : goal.loop-i-preserved
loop-i-preserved g c =
    puts_more (λ v. codes " " ++ group_name c.args.plan.now v) c.args.groups.now c.loop-i-test.true c.index-groups-i.is c.loop-i.invariant
    (puts_then c.put_bytes.ensures (rw c.group_name.ensures.value at c.put_bytes-in-loop-i.ensures))
