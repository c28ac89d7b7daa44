use Rattle.tx_text.proofs.Writing.{some, some_last}
use Rattle.tx_text.proofs.Putting.{puts_wrote, puts_is, puts_then}
use Rattle.tx_plantext.proofs.PlanWriting.{plan_cut}
use Rattle.tx_plantext.proofs.plan_writer.write_plan.Goals as goal

pub returns : goal.returns
returns g c =
    puts_wrote _ (some_last _ _ (some_last _ _ some)) (puts_is (plan_cut c.args.plan.now)
    (puts_then (rw c.bars.ensures.count at c.write_head.ensures) (puts_then c.write_numbering.ensures (puts_then c.write_routing.ensures c.put_bytes.ensures)))) c.finish.ensures
