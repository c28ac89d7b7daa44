use Rattle.tx_script.proofs.Common.{source_calls, went_none, calls_so_far}
use Rattle.tx_script.proofs.runner.run_script.Goals as goal

pub returns-in-Err-clause-calls : goal.returns-in-Err-clause-calls
returns-in-Err-clause-calls g c = calls_so_far g.R.Source.called source_calls source_calls _ _ (went_none g.R.Source.called source_calls _)
