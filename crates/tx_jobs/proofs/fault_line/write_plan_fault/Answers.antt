use Rattle.tx_jobs.proofs.Common.{subst, Wrote, text_fault_line}
use Rattle.tx_jobs.proofs.fault_line.write_plan_fault.Goals as goal

pub returns : goal.returns
returns g c =
    subst (λ r. Wrote g.W.Sink.taken g.W.Sink.failed c.args.sink.now c.write_text_fault.new.sink
    (text_fault_line c.args.text.now c.args.fault.now.line r) c.write_text_fault.result)
    c.code_and_name-row.ensures c.write_text_fault.ensures
