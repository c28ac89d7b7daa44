use Rattle.tx_requests.proofs.Common.{Ok, Err, exits_with, write_stop}
use Rattle.tx_requests.proofs.explain.do_explain.Goals as goal

pub returns : goal.returns
returns g c = record {
  written = Ok tt;
  by = rw c.as_deref.ensures.value at c.in_ok-write_explanation.ensures;
  ended = (c.of.ensures.status, c.of.ensures.made);
}

pub returns-in_err-write_explanation : goal.returns-in_err-write_explanation
returns-in_err-write_explanation g c = record {
  written = Err c.in_err-write_explanation.field-0.0;
  by = rw c.as_deref.ensures.value at c.in_err-write_explanation.ensures;
  ended = exits_with c.from_residual.result write_stop c.from_residual.ensures.1;
}
