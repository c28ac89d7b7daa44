use Rattle.tx_audit.proofs.Common.{refl, ap, inr, source_calls, input, output, went_none, calls_so_far, Net}
use Rattle.tx_script.specs.Answers.{states}
use Rattle.tx_audit.proofs.Untouched.{ran_from_opening, simulated_by}
use Rattle.tx_audit.proofs.simulating.simulate.Goals as goal

pub returns-in-Err-clause-answers : goal.returns-in-Err-clause-answers
returns-in-Err-clause-answers g c = inr (refl, (refl, refl))

pub returns-in-Err-clause-calls : goal.returns-in-Err-clause-calls
returns-in-Err-clause-calls g c = calls_so_far g.R.Source.called source_calls source_calls _ _ (went_none g.R.Source.called source_calls _)

pub returns-in-Ok-clause-answers : goal.returns-in-Ok-clause-answers
returns-in-Ok-clause-answers g c =
    let p = c.args.plan.now in
    let script = input g.R.Source.rest g.R.Source.failed g.R.Source.called c.args.script.now c.run.new.source in
    let out = output g.W.Sink.taken c.args.out.now c.run.new.sink in
    let net = states (λ (n : Net). n.state) c.in-Ok.network c.run.new.net in
    simulated_by p script out c.run.result
    (ran_from_opening p script out net (ap (λ n. n.state) c.in-Ok.ensures) (λ u. ap (λ n. n.state) u) c.run.result c.run.ensures.answers)
