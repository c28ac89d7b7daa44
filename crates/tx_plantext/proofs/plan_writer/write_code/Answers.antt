use Rattle.tx_plantext.proofs.PlanWriting.{code_text}
use Rattle.tx_plantext.proofs.plan_writer.write_code.Goals as goal

pub returns-in-Some : goal.returns-in-Some
returns-in-Some g c = rw (code_text c.args.plan.now c.args.index c.in-Some.code _ _ _ c.in-Some.ensures c.code_figures.ensures.value c.home.ensures c.exchange_name-home.ensures.value) c.put_parts.ensures
