use Rattle.tx_requests.proofs.Common.{ℕ, inl, inr, refl, exits_with, lint_held, risks_stop, memory_stop}
use Rattle.tx_requests.proofs.LintTold.{risks_mark}
use Rattle.tx_requests.proofs.linting.warn_with_risks.Goals as goal

pub returns-in_err-risks-clause-answers : goal.returns-in_err-risks-clause-answers
returns-in_err-risks-clause-answers g c =
    let f = c.in_err-risks.field-0.0 in
    inr (
      risks_stop f,
      record { fault = f; read = rw c.plan.ensures at c.in_err-risks.ensures.answer; is = refl },
      exits_with c.from_residual.result (risks_stop f) c.from_residual.ensures.1,
      refl,
    )

pub returns-in_err-risks-clause-mark : goal.returns-in_err-risks-clause-mark
returns-in_err-risks-clause-mark g c =
    let f = c.in_err-risks.field-0.0 in
    rw (exits_with c.from_residual.result (risks_stop f) c.from_residual.ensures.1)
    (risks_mark ℕ (g.W.Sink.failed c.args.out.now) f)

pub returns-in_err-lint-clause-answers : goal.returns-in_err-lint-clause-answers
returns-in_err-lint-clause-answers g c = inl (
  c.in_ok-risks.risks,
  rw c.plan.ensures at c.in_ok-risks.ensures.fits,
  rw c.plan.ensures at c.in_ok-risks.ensures.answer,
  inr (exits_with c.from_residual-in_err-lint.result memory_stop c.from_residual-in_err-lint.ensures.1, refl),
)

pub returns-clause-answers : goal.returns-clause-answers
returns-clause-answers g c = inl (
  c.in_ok-risks.risks,
  rw c.plan.ensures at c.in_ok-risks.ensures.fits,
  rw c.plan.ensures at c.in_ok-risks.ensures.answer,
  inl (record {
    lint = lint_held c.in_ok-lint.lint;
    is = c.in_ok-lint.ensures;
    told = c.tell_lint.ensures.told;
  }),
)
