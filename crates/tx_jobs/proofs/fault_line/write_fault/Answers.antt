use Rattle.std.specs.Prelude.{codes}
use Rattle.tx_jobs.proofs.Common.{subst, Wrote, text_fault_line}
use Rattle.tx_jobs.proofs.fault_line.write_fault.Goals as goal

pub returns-in-Plan : goal.returns-in-Plan
returns-in-Plan g c = rw c.in-Plan.is c.write_plan_fault.ensures

pub returns-in-Cert : goal.returns-in-Cert
returns-in-Cert g c =
    rw c.in-Cert.is
    (subst (λ r. Wrote g.W.Sink.taken g.W.Sink.failed c.args.sink.now c.write_text_fault.new.sink
    (text_fault_line (codes "certificate") c.in-Cert.fault.line r) c.write_text_fault.result)
    c.code_and_name-row.ensures c.write_text_fault.ensures)

pub returns-in-Script : goal.returns-in-Script
returns-in-Script g c =
    rw c.in-Script.is
    (subst (λ r. Wrote g.W.Sink.taken g.W.Sink.failed c.args.sink.now c.write_text_fault-in-Script.new.sink
    (text_fault_line (codes "script") c.in-Script.fault.line r) c.write_text_fault-in-Script.result)
    c.code_and_name-row-in-Script.ensures c.write_text_fault-in-Script.ensures)

pub returns-in-Read : goal.returns-in-Read
returns-in-Read g c = rw c.in-Read.is c.write_bytes.ensures

pub returns-in-Write : goal.returns-in-Write
returns-in-Write g c = rw c.in-Write.is c.write_bytes-in-Write.ensures

pub returns-in-NoMemory : goal.returns-in-NoMemory
returns-in-NoMemory g c = rw c.in-NoMemory.is c.write_bytes-in-NoMemory.ensures
