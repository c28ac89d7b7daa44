use Rattle.tx_requests.proofs.Common.{Ok, Err, exits_with, Job}
use Rattle.tx_requests.proofs.auditing.do_audit.Goals as goal

pub end_audit-requires : goal.end_audit-requires
end_audit-requires g c = c.in_ok-audited-in-None.ensures.each

pub returns-in_ok-audited-in-None-clause-done : goal.returns-in_ok-audited-in-None-clause-done
returns-in_ok-audited-in-None-clause-done g c = rw c.in-None.is (record {
  answer = Ok c.in_ok-audited-in-None.audited;
  by = c.in_ok-audited-in-None.ensures.answers;
  mark = c.in_ok-audited-in-None.ensures.mark;
  ended = c.end_audit.ensures;
})

pub returns-in_err-audited-in-None-clause-done : goal.returns-in_err-audited-in-None-clause-done
returns-in_err-audited-in-None-clause-done g c =
    let f = c.in_err-audited-in-None.field-0.0 in
    rw c.in-None.is (record {
      answer = Err f;
      by = c.in_err-audited-in-None.ensures.answers;
      mark = c.in_err-audited-in-None.ensures.mark;
      ended = exits_with c.from_residual.result (Job f) c.from_residual.ensures.1;
    })

pub carry_left-requires-clause-read : goal.carry_left-requires-clause-read
carry_left-requires-clause-read g c = c.read_one.ensures.known

pub carry_left-requires-clause-known : goal.carry_left-requires-clause-known
carry_left-requires-clause-known g c = λ p known. known

pub returns-in-Some-clause-done : goal.returns-in-Some-clause-done
returns-in-Some-clause-done g c =
    let e = c.carry_left.ensures in
    rw c.in-Some.is (e.0, (c.read_one.result, c.read_one.ensures.text, e.1), e.2)
