use Rattle.tx_jobs.proofs.Common.{Ok, Err, refl, input, output, exits_with, run_fault}
use Rattle.tx_jobs.proofs.Simulating.{ran_as}
use Rattle.tx_jobs.proofs.RefusedTexts.{run_mark}
use Rattle.tx_jobs.proofs.run.simulated.Goals as goal

pub returns-clause-answers : goal.returns-clause-answers
returns-clause-answers g c =
    let script =
    input g.R.Source.rest g.R.Source.failed g.R.Source.called c.args.script.now
    c.simulate.new.script in
    let out = output g.W.Sink.taken c.args.out.now c.simulate.new.out in
    ran_as _ script out (Ok c.in_ok-simulate.field-0) _ refl c.in_ok-simulate.ensures.answers

pub returns-in_err-simulate-clause-answers : goal.returns-in_err-simulate-clause-answers
returns-in_err-simulate-clause-answers g c =
    let f = c.in_err-simulate.field-0.0 in
    let script =
    input g.R.Source.rest g.R.Source.failed g.R.Source.called c.args.script.now
    c.simulate.new.script in
    let out = output g.W.Sink.taken c.args.out.now c.simulate.new.out in
    ran_as _ script out (Err f) _
    (exits_with c.from_residual.result (run_fault f) c.from_residual.ensures.1)
    c.in_err-simulate.ensures.answers

pub returns-in_err-simulate-clause-mark : goal.returns-in_err-simulate-clause-mark
returns-in_err-simulate-clause-mark g c =
    let f = c.in_err-simulate.field-0.0 in
    rw (exits_with c.from_residual.result (run_fault f) c.from_residual.ensures.1)
    (run_mark (g.W.Sink.failed c.args.out.now) _ f c.in_err-simulate.ensures.mark)
