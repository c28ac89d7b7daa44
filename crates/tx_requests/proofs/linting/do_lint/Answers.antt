use Rattle.tx_requests.proofs.Common.{◌∙◌, Ok, Err, refl, sym, exits_with, uncalled}
use Rattle.tx_requests.proofs.LintTold.{with_risks, without_risks}
use Rattle.tx_requests.proofs.linting.do_lint.Goals as goal

pub returns-in_ok-lint_with_risks-clause-done : goal.returns-in_ok-lint_with_risks-clause-done
returns-in_ok-lint_with_risks-clause-done g c = record {
  answer = Ok c.in_ok-lint_with_risks.field-0;
  by = with_risks _ _ _ _ _ _ (sym c.is_some.ensures ∙ c.if-is_some.true)
      (rw c.as_bytes-file.ensures.value at c.in_ok-lint_with_risks.ensures.answers);
  mark = c.in_ok-lint_with_risks.ensures.mark;
  ended = (c.of.ensures.status, c.of.ensures.made);
}

pub returns-in_err-lint_with_risks-clause-done : goal.returns-in_err-lint_with_risks-clause-done
returns-in_err-lint_with_risks-clause-done g c =
    let f = c.in_err-lint_with_risks.field-0.0 in
    record {
      answer = Err f;
      by = with_risks _ _ _ _ _ _ (sym c.is_some.ensures ∙ c.if-is_some.true)
          (rw c.as_bytes-file.ensures.value at c.in_err-lint_with_risks.ensures.answers);
      mark = c.in_err-lint_with_risks.ensures.mark;
      ended = rw (exits_with c.from_residual.result f c.from_residual.ensures.1) refl;
    }

pub returns-in_ok-lint_whole-clause-done : goal.returns-in_ok-lint_whole-clause-done
returns-in_ok-lint_whole-clause-done g c = record {
  answer = Ok c.in_ok-lint_whole.field-0;
  by = without_risks _ _ _ _ _ _ (sym c.is_some.ensures ∙ c.if-is_some.false)
      (rw c.as_bytes-file.ensures.value at c.in_ok-lint_whole.ensures.answers) refl;
  mark = c.in_ok-lint_whole.ensures.mark;
  ended = (c.of-else-is_some.ensures.status, c.of-else-is_some.ensures.made);
}

pub returns-in_ok-lint_whole-clause-risks_calls : goal.returns-in_ok-lint_whole-clause-risks_calls
returns-in_ok-lint_whole-clause-risks_calls g c = uncalled g.R.Source.called c.args.risks.now

pub returns-in_err-lint_whole-clause-done : goal.returns-in_err-lint_whole-clause-done
returns-in_err-lint_whole-clause-done g c =
    let f = c.in_err-lint_whole.field-0.0 in
    record {
      answer = Err f;
      by = without_risks _ _ _ _ _ _ (sym c.is_some.ensures ∙ c.if-is_some.false)
          (rw c.as_bytes-file.ensures.value at c.in_err-lint_whole.ensures.answers) refl;
      mark = c.in_err-lint_whole.ensures.mark;
      ended = rw (exits_with c.from_residual-in_err-lint_whole.result f c.from_residual-in_err-lint_whole.ensures.1) refl;
    }

pub returns-in_err-lint_whole-clause-risks_calls : goal.returns-in_err-lint_whole-clause-risks_calls
returns-in_err-lint_whole-clause-risks_calls g c = uncalled g.R.Source.called c.args.risks.now
