use Rattle.tx_jobs.proofs.Common.{sym, ◌∙◌, inl, inr, refl, source_calls, went_none, calls_so_far, exits_with, Write}
use Rattle.tx_jobs.proofs.run_checked.run_or_tell.Goals as goal

pub returns-in_ok-summary-in-Yes-clause-told : goal.returns-in_ok-summary-in-Yes-clause-told
returns-in_ok-summary-in-Yes-clause-told g c =
    let is = c.in-Yes.is in
    let yes = c.check-verdict.ensures in (
      record {
        yes = sym yes.verdict ∙ is;
        sound = yes.sound is;
        few_routes = yes.few_routes is;
      },
      c.in_ok-summary-in-Yes.ensures.answers,
    )

pub returns-in_err-summary-in-Yes-clause-told : goal.returns-in_err-summary-in-Yes-clause-told
returns-in_err-summary-in-Yes-clause-told g c =
    let is = c.in-Yes.is in
    let yes = c.check-verdict.ensures in
    let failed = c.in_err-summary-in-Yes in
    rw (exits_with c.from_residual.result failed.field-0.0 c.from_residual.ensures.1)
    (inl (
      record {
        yes = sym yes.verdict ∙ is;
        sound = yes.sound is;
        few_routes = yes.few_routes is;
      },
      failed.ensures.answers,
    ))

pub returns-in_err-summary-in-Yes-clause-mark : goal.returns-in_err-summary-in-Yes-clause-mark
returns-in_err-summary-in-Yes-clause-mark g c =
    let failed = c.in_err-summary-in-Yes in
    rw (exits_with c.from_residual.result failed.field-0.0 c.from_residual.ensures.1)
    failed.ensures.mark

pub returns-in_ok-write_verdict-in-No-clause-told : goal.returns-in_ok-write_verdict-in-No-clause-told
returns-in_ok-write_verdict-in-No-clause-told g c =
    (sym c.check-verdict.ensures.verdict ∙ c.in-No.is, rw c.in-No.is at c.in_ok-write_verdict-in-No.ensures.0, refl)

pub returns-in_err-write_verdict-in-No-clause-told : goal.returns-in_err-write_verdict-in-No-clause-told
returns-in_err-write_verdict-in-No-clause-told g c =
    rw (exits_with c.from_residual-in_err-write_verdict-in-No.result Write c.from_residual-in_err-write_verdict-in-No.ensures.1)
    (inr (record {
      reason = c.in-No.fault;
      denied = sym c.check-verdict.ensures.verdict ∙ c.in-No.is;
      front = rw c.in-No.is at c.in_err-write_verdict-in-No.ensures.0;
      rest = refl;
      told = refl;
    }))

pub returns-in_err-write_verdict-in-No-clause-mark : goal.returns-in_err-write_verdict-in-No-clause-mark
returns-in_err-write_verdict-in-No-clause-mark g c =
    rw (exits_with c.from_residual-in_err-write_verdict-in-No.result Write c.from_residual-in_err-write_verdict-in-No.ensures.1)
    c.in_err-write_verdict-in-No.ensures.1

pub returns-in_ok-write_verdict-in-No-clause-calls : goal.returns-in_ok-write_verdict-in-No-clause-calls
returns-in_ok-write_verdict-in-No-clause-calls g c =
    calls_so_far g.R.Source.called source_calls source_calls _ _
    (went_none g.R.Source.called source_calls _)

pub returns-in_err-write_verdict-in-No-clause-calls : goal.returns-in_err-write_verdict-in-No-clause-calls
returns-in_err-write_verdict-in-No-clause-calls g c =
    calls_so_far g.R.Source.called source_calls source_calls _ _
    (went_none g.R.Source.called source_calls _)
