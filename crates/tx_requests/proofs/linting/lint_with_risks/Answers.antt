use Rattle.tx_requests.proofs.Common.{ℕ, Err, ap, inl, inr, map, refl, input, output, exits_with, text_stop, uncalled}
use Rattle.tx_lint.specs.AllFaults.{faults_of, progress_of}
use Rattle.tx_lint.specs.Lints.{told_held}
use Rattle.tx_requests.proofs.LintTold.{not_read, text_mark, faulty_told, right_told}
use Rattle.tx_requests.proofs.linting.lint_with_risks.Goals as goal

pub returns-in_err-text-clause-answers : goal.returns-in_err-text-clause-answers
returns-in_err-text-clause-answers g c =
    let f = c.in_err-text.field-0.0 in
    let out = c.args.out.now in
    let read =
    input g.P.Source.rest g.P.Source.failed g.P.Source.called c.args.plan.now
    c.read_whole_text.new.source in
    rw (exits_with c.from_residual.result (text_stop f) c.from_residual.ensures.1)
    (inr (
      not_read ℕ read (output g.W.Sink.taken out out) f (λ e. c.in_err-text.ensures.fault (ap Err e)) refl,
      refl,
    ))

pub returns-in_err-text-clause-mark : goal.returns-in_err-text-clause-mark
returns-in_err-text-clause-mark g c =
    let f = c.in_err-text.field-0.0 in
    rw (exits_with c.from_residual.result (text_stop f) c.from_residual.ensures.1)
    (text_mark ℕ (g.W.Sink.failed c.args.out.now) f)

pub returns-in_err-text-clause-risks_calls : goal.returns-in_err-text-clause-risks_calls
returns-in_err-text-clause-risks_calls g c = uncalled g.R.Source.called c.args.risks.now

pub returns-in_err-faults-clause-risks_calls : goal.returns-in_err-faults-clause-risks_calls
returns-in_err-faults-clause-risks_calls g c = uncalled g.R.Source.called c.args.risks.now

pub returns-in-Faults-clause-answers : goal.returns-in-Faults-clause-answers
returns-in-Faults-clause-answers g c =
    let text = rw c.deref.ensures.value at c.in_ok-faults.ensures.look in
    let look = rw c.in-Faults.is at text in
    inl (record {
      text = c.in_ok-text.text.items;
      whole = c.in_ok-text.ensures.text;
      goes_on = inl (faulty_told (faults_of c.in_ok-text.text.items)
          (progress_of c.in_ok-text.text.items) _ _ _ _ (map told_held c.in-Faults.faults.items)
          look.0 look.1 c.tell_lint.ensures.told refl);
    })

pub returns-in-Faults-clause-risks_calls : goal.returns-in-Faults-clause-risks_calls
returns-in-Faults-clause-risks_calls g c = uncalled g.R.Source.called c.args.risks.now

pub returns-clause-answers : goal.returns-clause-answers
returns-clause-answers g c =
    let text = rw c.deref.ensures.value at c.in_ok-faults.ensures.look in
    let look = rw c.in-Right.is at text in
    inl (record {
      text = c.in_ok-text.text.items;
      whole = c.in_ok-text.ensures.text;
      goes_on = inl (right_told (faults_of c.in_ok-text.text.items)
          (progress_of c.in_ok-text.text.items) _ _ _ _ _ look.0 look.1
          c.warn_with_risks.ensures.answers);
    })
