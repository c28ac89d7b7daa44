use Rattle.std.specs.Prelude.{codes}
use Rattle.std.proofs.Common.{subst}
use Rattle.tx_text.specs.Wrote.{Wrote}
use Rattle.tx_jobs.specs.JobFaults.{text_fault_line}
use Rattle.tx_files.proofs.fault_line.write_command_fault.Goals as goal

pub returns-in-OldPlan : goal.returns-in-OldPlan
returns-in-OldPlan g c = rw c.in-OldPlan.is c.write_plan_fault.ensures

pub returns-in-NewPlan : goal.returns-in-NewPlan
returns-in-NewPlan g c = rw c.in-NewPlan.is c.write_plan_fault-in-NewPlan.ensures

pub returns-in-Risks : goal.returns-in-Risks
returns-in-Risks g c =
    rw c.in-Risks.is
    (subst (λ r. Wrote g.W.Sink.taken g.W.Sink.failed c.args.sink.now c.write_text_fault.new.sink
    (text_fault_line (codes "risks") c.in-Risks.fault.line r) c.write_text_fault.result)
    c.code_and_name-row.ensures c.write_text_fault.ensures)

pub returns-in-Done : goal.returns-in-Done
returns-in-Done g c =
    rw c.in-Done.is
    (subst (λ r. Wrote g.W.Sink.taken g.W.Sink.failed c.args.sink.now c.write_text_fault-in-Done.new.sink
    (text_fault_line (codes "done") c.in-Done.fault.line r) c.write_text_fault-in-Done.result)
    c.code_and_name-row-in-Done.ensures c.write_text_fault-in-Done.ensures)

pub returns-in-Contradiction : goal.returns-in-Contradiction
returns-in-Contradiction g c = rw c.in-Contradiction.is c.write_contradiction.ensures

pub returns-in-TooManyTogether : goal.returns-in-TooManyTogether
returns-in-TooManyTogether g c = rw c.in-TooManyTogether.is c.write_bytes.ensures

pub returns-in-NoSuchStage : goal.returns-in-NoSuchStage
returns-in-NoSuchStage g c = rw c.in-NoSuchStage.is c.write_stage_count.ensures

pub returns-in-NoSuchName : goal.returns-in-NoSuchName
returns-in-NoSuchName g c = rw c.in-NoSuchName.is c.write_missing.ensures

pub returns-in-NotInOldPlan : goal.returns-in-NotInOldPlan
returns-in-NotInOldPlan g c = rw c.in-NotInOldPlan.is c.write_bytes-in-NotInOldPlan.ensures

pub returns-in-Job : goal.returns-in-Job
returns-in-Job g c = rw c.in-Job.is c.write_fault.ensures
