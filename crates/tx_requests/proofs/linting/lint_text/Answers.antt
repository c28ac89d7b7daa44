use Rattle.tx_requests.proofs.Common.{inl, inr, refl, exits_with, lint_held, text_stop}
use Rattle.tx_requests.proofs.linting.lint_text.Goals as goal

pub returns-clause-linted : goal.returns-clause-linted
returns-clause-linted g c = inl (record {
  lint = lint_held c.in_ok-lint.lint;
  is = c.in_ok-lint.ensures.lint;
  told = c.tell_lint.ensures.told;
})

pub returns-in_err-lint-clause-linted : goal.returns-in_err-lint-clause-linted
returns-in_err-lint-clause-linted g c =
    let f = c.in_err-lint.field-0.0 in
    inr (
      rw (exits_with c.from_residual.result (text_stop f) c.from_residual.ensures.1, c.in_err-lint.ensures.memory)
          refl,
      refl,
    )
