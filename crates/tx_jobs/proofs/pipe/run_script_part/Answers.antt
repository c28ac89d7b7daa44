use Rattle.tx_text.specs.Calls.{source_calls}
use Rattle.tx_jobs.proofs.Piping.{script_same}
use Rattle.tx_jobs.proofs.pipe.run_script_part.Goals as goal

pub returns-clause-same_input : goal.returns-clause-same_input
returns-clause-same_input g c = (script_same g.R.Source.rest g.R.Source.failed g.R.Source.called source_calls c.args.script.now c.simulated.new.script c.simulated.ensures.calls).input

pub returns-clause-same_ahead : goal.returns-clause-same_ahead
returns-clause-same_ahead g c = (script_same g.R.Source.rest g.R.Source.failed g.R.Source.called source_calls c.args.script.now c.simulated.new.script c.simulated.ensures.calls).ahead
