use Rattle.tx_audit.proofs.Common.{sym, ◌∙◌, source_calls, went_none, calls_so_far, exits_with}
use Rattle.tx_audit.proofs.checked_run.run_checked.Goals as goal

pub returns-in_err-summary-in-Yes-clause-answers : goal.returns-in_err-summary-in-Yes-clause-answers
returns-in_err-summary-in-Yes-clause-answers g c =
    let is = c.in-Yes.is in
    let failed = c.in_err-summary-in-Yes in
    rw (exits_with c.from_residual.result failed.field-0.0 c.from_residual.ensures.1)
    (record { yes = sym c.check.ensures.verdict ∙ is; sound = c.check.ensures.sound is; few_routes = c.check.ensures.few_routes is }, failed.ensures.answers)

pub returns-in_err-summary-in-Yes-clause-mark : goal.returns-in_err-summary-in-Yes-clause-mark
returns-in_err-summary-in-Yes-clause-mark g c =
    let failed = c.in_err-summary-in-Yes in
    rw (exits_with c.from_residual.result failed.field-0.0 c.from_residual.ensures.1) failed.ensures.mark

pub returns-in_ok-summary-in-Yes-clause-answers : goal.returns-in_ok-summary-in-Yes-clause-answers
returns-in_ok-summary-in-Yes-clause-answers g c =
    let is = c.in-Yes.is in
    (record { yes = sym c.check.ensures.verdict ∙ is; sound = c.check.ensures.sound is; few_routes = c.check.ensures.few_routes is }, c.in_ok-summary-in-Yes.ensures.answers)

pub returns-in-No-clause-calls : goal.returns-in-No-clause-calls
returns-in-No-clause-calls g c = calls_so_far g.R.Source.called source_calls source_calls _ _ (went_none g.R.Source.called source_calls _)
