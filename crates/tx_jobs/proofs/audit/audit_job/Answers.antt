use Rattle.tx_jobs.proofs.Common.{◌∙◌, Ok, Err, refl, exits_with, audit_fault}
use Rattle.tx_jobs.proofs.RefusedTexts.{audit_marked}
use Rattle.tx_jobs.proofs.audit.audit_job.Goals as goal

pub returns-clause-answers : goal.returns-clause-answers
returns-clause-answers g c = (Ok c.in_ok-audit.field-0, c.in_ok-audit.ensures.answers, refl)

pub returns-in_err-audit-clause-answers : goal.returns-in_err-audit-clause-answers
returns-in_err-audit-clause-answers g c =
    let f = c.in_err-audit.field-0.0 in (
      Err f,
      c.in_err-audit.ensures.answers,
      exits_with c.from_residual.result (audit_fault f) c.from_residual.ensures.1,
    )

pub returns-in_err-audit-clause-mark : goal.returns-in_err-audit-clause-mark
returns-in_err-audit-clause-mark g c =
    let f = c.in_err-audit.field-0.0 in
    rw (exits_with c.from_residual.result (audit_fault f) c.from_residual.ensures.1)
    (c.in_err-audit.ensures.mark ∙ audit_marked (g.W.Sink.failed c.args.out.now) f)
