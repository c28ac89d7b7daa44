use Rattle.tx_requests.proofs.Common.{Ok}
use Rattle.tx_requests.proofs.running.do_check.Goals as goal

pub returns-in-Yes-clause-done : goal.returns-in-Yes-clause-done
returns-in-Yes-clause-done g c = record {
  answer = Ok c.in_ok-check_job.field-0;
  by = c.in_ok-check_job.ensures.answers;
  mark = c.in_ok-check_job.ensures.mark;
  ended = rw c.in-Yes.is (c.of.ensures.status, c.of.ensures.made);
}

pub returns-in-No-clause-done : goal.returns-in-No-clause-done
returns-in-No-clause-done g c = record {
  answer = Ok c.in_ok-check_job.field-0;
  by = c.in_ok-check_job.ensures.answers;
  mark = c.in_ok-check_job.ensures.mark;
  ended = rw c.in-No.is (c.of-in-No.ensures.status, c.of-in-No.ensures.made);
}
