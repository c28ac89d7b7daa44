use Rattle.tx_jobs.proofs.check.tell_verdict.Goals as goal

pub returns-clause-told : goal.returns-clause-told
returns-clause-told g c = (
  c.check-verdict.ensures.verdict,
  c.in_ok-write_verdict.ensures.0,
  c.check-verdict.ensures.sound,
)
