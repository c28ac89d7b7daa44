use Rattle.tx_page.proofs.StepsOfWalks.{step_set, all_steps_set}
use Rattle.tx_page.proofs.findings.write_steps.Goals as goal

pub loop-i-preserved : goal.loop-i-preserved
loop-i-preserved g c = step_set c.loop-i-test.true c.index-steps-i.is c.loop-i.invariant c.write_step.ensures

pub returns : goal.returns
returns g c = all_steps_set c.loop-i-test.false c.loop-i.invariant (rw c.exchange_name.ensures.value at c.set.ensures)
