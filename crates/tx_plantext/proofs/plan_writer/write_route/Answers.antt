use Rattle.tx_text.proofs.Putting.{puts_then, puts_is}
use Rattle.tx_plantext.proofs.PlanWriting.{named_route}
use Rattle.tx_plantext.proofs.plan_writer.write_route.Goals as goal

pub returns : goal.returns
returns g c =
    puts_is (named_route c.args.plan.now c.args.exchange c.args.code _ _ _ c.exchange_name.ensures.value c.code_figures.ensures.value c.list.ensures.value) (puts_then c.put_parts.ensures c.write_group_names.ensures)
