use Rattle.tx_script.proofs.Common.{source_calls, went_none, calls_so_far}
use Rattle.tx_script.proofs.Counting.{new_counts, asked_is}
use Rattle.tx_script.proofs.runner.run_telling.Goals as goal

pub run_script-ran-requires-clause-counts : goal.run_script-ran-requires-clause-counts
run_script-ran-requires-clause-counts g c =
    rw c.in-Ok.ensures.ok (new_counts c.args.plan.now (g.N.Network.state c.args.net.now) c.args.telling.summary c.requires.released)

pub returns-in-Ok-clause-answers : goal.returns-in-Ok-clause-answers
returns-in-Ok-clause-answers g c = rw (c.in-Ok.ensures.ok, asked_is c.args.plan.now c.args.telling) at c.run_script-ran.ensures.answers

pub returns-in-Err-clause-calls : goal.returns-in-Err-clause-calls
returns-in-Err-clause-calls g c = calls_so_far g.R.Source.called source_calls source_calls _ _ (went_none g.R.Source.called source_calls _)
