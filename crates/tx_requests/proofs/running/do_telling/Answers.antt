use Rattle.tx_requests.proofs.Common.{Ok, Err, refl, exits_with, Job, uncalled}
use Rattle.tx_requests.proofs.running.do_telling.Goals as goal

pub returns-in_ok-summary-in-None-clause-done : goal.returns-in_ok-summary-in-None-clause-done
returns-in_ok-summary-in-None-clause-done g c =
    rw c.in-None.is (
      refl,
      record {
        answer = Ok c.in_ok-summary-in-None.summary;
        by = c.in_ok-summary-in-None.ensures.answers;
        mark = c.in_ok-summary-in-None.ensures.mark;
        ended = (rw c.strict_status.ensures at c.of.ensures.status, c.of.ensures.made);
      },
    )

pub returns-in_ok-summary-in-None-clause-third_calls : goal.returns-in_ok-summary-in-None-clause-third_calls
returns-in_ok-summary-in-None-clause-third_calls g c = uncalled g.R.Source.called c.args.third.now

pub returns-in_err-summary-in-None-clause-done : goal.returns-in_err-summary-in-None-clause-done
returns-in_err-summary-in-None-clause-done g c =
    let f = c.in_err-summary-in-None.field-0.0 in
    rw c.in-None.is (
      refl,
      record {
        answer = Err f;
        by = c.in_err-summary-in-None.ensures.answers;
        mark = c.in_err-summary-in-None.ensures.mark;
        ended = exits_with c.from_residual.result (Job f) c.from_residual.ensures.1;
      },
    )

pub returns-in_err-summary-in-None-clause-third_calls : goal.returns-in_err-summary-in-None-clause-third_calls
returns-in_err-summary-in-None-clause-third_calls g c = uncalled g.R.Source.called c.args.third.now

pub returns-in_ok-checked-in-Some-clause-done : goal.returns-in_ok-checked-in-Some-clause-done
returns-in_ok-checked-in-Some-clause-done g c =
    rw c.in-Some.is
    (record {
      answer = Ok c.in_ok-checked-in-Some.checked;
      by = c.in_ok-checked-in-Some.ensures.answers;
      mark = c.in_ok-checked-in-Some.ensures.mark;
      ended = (rw c.checked_status.ensures at c.of-in-Some.ensures.status, c.of-in-Some.ensures.made);
    })

pub returns-in_err-checked-in-Some-clause-done : goal.returns-in_err-checked-in-Some-clause-done
returns-in_err-checked-in-Some-clause-done g c =
    let f = c.in_err-checked-in-Some.field-0.0 in
    rw c.in-Some.is
    (record {
      answer = Err f;
      by = c.in_err-checked-in-Some.ensures.answers;
      mark = c.in_err-checked-in-Some.ensures.mark;
      ended = exits_with c.from_residual-in_err-checked-in-Some.result (Job f) c.from_residual-in_err-checked-in-Some.ensures.1;
    })
