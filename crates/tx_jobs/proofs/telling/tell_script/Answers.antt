use Rattle.tx_jobs.proofs.Common.{Ok, Err, ap, inl, inr, refl, source_calls, went_none, calls_so_far, exits_with, run_fault}
use Rattle.tx_machine.specs.State.{Net}
use Rattle.tx_jobs.specs.declared.job_fault.JobFault.TheVariants.{NoMemory}
use Rattle.tx_jobs.proofs.RefusedTexts.{run_mark}
use Rattle.tx_jobs.proofs.ToldRuns.{told_plan}
use Rattle.tx_jobs.proofs.telling.tell_script.Goals as goal

pub returns-in_err-network-clause-answers : goal.returns-in_err-network-clause-answers
returns-in_err-network-clause-answers g c =
    inr (exits_with c.from_residual.result NoMemory c.from_residual.ensures.1, refl, refl)

pub returns-in_err-network-clause-calls : goal.returns-in_err-network-clause-calls
returns-in_err-network-clause-calls g c =
    calls_so_far g.R.Source.called source_calls source_calls _ _
    (went_none g.R.Source.called source_calls _)

pub returns-in_err-run_telling-clause-answers : goal.returns-in_err-run_telling-clause-answers
returns-in_err-run_telling-clause-answers g c =
    let f = c.in_err-run_telling.field-0.0 in
    let opened = ap (λ n. n.state) c.in_ok-network.ensures in
    inl (told_plan (λ (n : Net). n.state) c.in_ok-network.network c.run_telling.new.net
    (Err f) _ c.in_err-run_telling.ensures.answers opened
    (exits_with c.from_residual-in_err-run_telling.result (run_fault f)
    c.from_residual-in_err-run_telling.ensures.1))

pub returns-in_err-run_telling-clause-mark : goal.returns-in_err-run_telling-clause-mark
returns-in_err-run_telling-clause-mark g c =
    let f = c.in_err-run_telling.field-0.0 in
    rw (exits_with c.from_residual-in_err-run_telling.result (run_fault f)
    c.from_residual-in_err-run_telling.ensures.1)
    (run_mark (g.W.Sink.failed c.args.out.now) _ f c.in_err-run_telling.ensures.mark)

pub returns-clause-answers : goal.returns-clause-answers
returns-clause-answers g c =
    let opened = ap (λ n. n.state) c.in_ok-network.ensures in
    inl (told_plan (λ (n : Net). n.state) c.in_ok-network.network c.run_telling.new.net
    (Ok c.in_ok-run_telling.field-0) _ c.in_ok-run_telling.ensures.answers opened refl)
