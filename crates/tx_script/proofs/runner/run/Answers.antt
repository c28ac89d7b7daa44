use Rattle.tx_text.specs.Ends.{input, output}
use Rattle.tx_script.specs.Answers.{states}
use Rattle.tx_script.proofs.Silent.{silent_answers}
use Rattle.tx_script.proofs.runner.run.Goals as goal

pub returns-clause-answers : goal.returns-clause-answers
returns-clause-answers g c =
    let source = input g.R.Source.rest g.R.Source.failed g.R.Source.called c.args.source.now c.run_script-ran.new.source in
    let net = states g.N.Network.state c.args.net.now c.run_script-ran.new.net in
    let sink = output g.W.Sink.taken c.args.sink.now c.run_script-ran.new.sink in
    silent_answers c.args.plan.now source net sink c.run_script-ran.result (rw c.silent-teller.ensures at c.run_script-ran.ensures.answers)
