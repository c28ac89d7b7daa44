use Rattle.tx_plantext.proofs.Common.{puts_then, puts_is}
use Rattle.tx_plantext.proofs.PlanWriting.{group_text}
use Rattle.tx_plantext.proofs.plan_writer.write_group.Goals as goal

pub returns-in-Some : goal.returns-in-Some
returns-in-Some g c =
    puts_is (group_text c.args.plan.now c.args.index c.in-Some.group c.group_count.result c.ends-a.result c.direction.result _ _ _ c.in-Some.ensures c.group_name-name.ensures.value c.ends-a.ensures c.exchange_name-first.ensures.value c.exchange_name-second.ensures.value c.direction.ensures c.group_count.ensures.value) (puts_then c.put_parts.ensures (puts_then c.write_direction.ensures c.write_count.ensures))
