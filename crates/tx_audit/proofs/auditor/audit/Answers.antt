use Rattle.tx_audit.proofs.Common.{refl, input, output, exits_with}
use Rattle.tx_audit.specs.declared.audited.AuditFault.TheVariants.{Plan as PlanRefused, Write, NoMemory}
use Rattle.tx_audit.proofs.Found.{audited, each_true, stopped}
use Rattle.tx_audit.proofs.auditor.audit.Goals as goal

pub returns-in_err-plan-clause-answers : goal.returns-in_err-plan-clause-answers
returns-in_err-plan-clause-answers g c =
    rw (exits_with c.from_residual.result (PlanRefused c.in_err-plan.field-0.0) c.from_residual.ensures.1) (c.in_err-plan.ensures.answer, refl)

pub returns-in_err-plan-clause-mark : goal.returns-in_err-plan-clause-mark
returns-in_err-plan-clause-mark g c = rw (exits_with c.from_residual.result (PlanRefused c.in_err-plan.field-0.0) c.from_residual.ensures.1) refl

pub returns-in_err-ranking-clause-answers : goal.returns-in_err-ranking-clause-answers
returns-in_err-ranking-clause-answers g c =
    rw (exits_with c.from_residual-in_err-ranking.result NoMemory c.from_residual-in_err-ranking.ensures.1)
    (record { plan = c.in_ok-plan.plan; rules = c.in_ok-plan.ensures.rules; read = c.in_ok-plan.ensures.answer }, refl)

pub returns-in_err-ranking-clause-mark : goal.returns-in_err-ranking-clause-mark
returns-in_err-ranking-clause-mark g c = rw (exits_with c.from_residual-in_err-ranking.result NoMemory c.from_residual-in_err-ranking.ensures.1) refl

pub returns-in_err-write_report-clause-answers : goal.returns-in_err-write_report-clause-answers
returns-in_err-write_report-clause-answers g c =
    let text = input g.R.Source.rest g.R.Source.failed g.R.Source.called c.args.source.now c.read_plan_from.new.source in
    let out = output g.W.Sink.taken c.args.out.now c.write_report.new.sink in
    rw (exits_with c.from_residual-in_err-write_report.result Write c.from_residual-in_err-write_report.ensures.1)
    (stopped _ c.in_ok-plan.plan c.args.limit c.args.spare text out c.in_ok-plan.ensures.rules c.in_ok-plan.ensures.answer c.in_ok-ranking.ranking c.in_ok-ranking.ensures c.in_err-write_report.ensures.0)

pub returns-in_err-write_report-clause-mark : goal.returns-in_err-write_report-clause-mark
returns-in_err-write_report-clause-mark g c =
    rw (exits_with c.from_residual-in_err-write_report.result Write c.from_residual-in_err-write_report.ensures.1) c.in_err-write_report.ensures.1

pub returns-clause-answers : goal.returns-clause-answers
returns-clause-answers g c =
    let text = input g.R.Source.rest g.R.Source.failed g.R.Source.called c.args.source.now c.read_plan_from.new.source in
    let out = output g.W.Sink.taken c.args.out.now c.write_report.new.sink in
    rw c.of.ensures (audited _ c.in_ok-plan.plan c.args.limit c.args.spare text out c.in_ok-plan.ensures.rules c.in_ok-plan.ensures.answer c.in_ok-ranking.ranking c.in_ok-ranking.ensures c.in_ok-write_report.ensures.0)

pub returns-clause-each : goal.returns-clause-each
returns-clause-each g c =
    rw c.of.ensures (each_true _ c.in_ok-plan.plan c.args.limit c.args.spare c.in_ok-ranking.ranking c.in_ok-ranking.ensures)
