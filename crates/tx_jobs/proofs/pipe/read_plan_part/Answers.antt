use Rattle.tx_text.specs.Calls.{source_calls}
use Rattle.tx_jobs.proofs.Piping.{plan_same}
use Rattle.tx_jobs.proofs.pipe.read_plan_part.Goals as goal

pub returns-clause-same_input : goal.returns-clause-same_input
returns-clause-same_input g c = (plan_same g.R.Source.rest g.R.Source.failed g.R.Source.called source_calls c.args.part.now c.read_plan_from.new.source c.read_plan_from.ensures.calls).input

pub returns-clause-same_ahead : goal.returns-clause-same_ahead
returns-clause-same_ahead g c = (plan_same g.R.Source.rest g.R.Source.failed g.R.Source.called source_calls c.args.part.now c.read_plan_from.new.source c.read_plan_from.ensures.calls).ahead
