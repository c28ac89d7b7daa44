use Rattle.tx_jobs.proofs.Common.{inl, inr, refl, source_calls, went_none, calls_so_far}
use Rattle.tx_jobs.proofs.RefusedTexts.{refused, refused_mark}
use Rattle.tx_jobs.proofs.run_checked.run_checked_telling_job.Goals as goal

pub returns-clause-answers : goal.returns-clause-answers
returns-clause-answers g c = inl (record { plan = c.in_ok-plan.plan; rules = c.in_ok-plan.ensures.rules; read = c.in_ok-plan.ensures.answer; goes_on = c.read_and_run.ensures.answers })

pub returns-in_err-plan-clause-answers : goal.returns-in_err-plan-clause-answers
returns-in_err-plan-clause-answers g c = inr (record { fault = c.in_err-plan.field-0.0; read = c.in_err-plan.ensures.answer; told = refused c.from_residual.result c.in_err-plan.field-0.0 c.from_residual.ensures.1; rest = (refl, refl, refl) })

pub returns-in_err-plan-clause-mark : goal.returns-in_err-plan-clause-mark
returns-in_err-plan-clause-mark g c = refused_mark (g.W.Sink.failed c.args.out.now) c.from_residual.result c.in_err-plan.field-0.0 c.from_residual.ensures.1

pub returns-in_err-plan-clause-cert_calls : goal.returns-in_err-plan-clause-cert_calls
returns-in_err-plan-clause-cert_calls g c = calls_so_far g.C.Source.called source_calls source_calls _ _ (went_none g.C.Source.called source_calls _)

pub returns-in_err-plan-clause-script_calls : goal.returns-in_err-plan-clause-script_calls
returns-in_err-plan-clause-script_calls g c = calls_so_far g.R.Source.called source_calls source_calls _ _ (went_none g.R.Source.called source_calls _)
