use Rattle.tx_requests.proofs.Common.{refl, uncalled}
use Rattle.std.specs.Prelude.{IfOk, Result, Ok, Err}
use Rattle.tx_files.specs.declared.fault.CommandFault.{CommandFault}
use Rattle.tx_files.specs.declared.two_plans.PlanText.{PlanText}
use Rattle.tx_files.specs.Left.{HasRules}
use Rattle.tx_files.specs.TwoPlans.{IsSaid}
use Rattle.tx_requests.proofs.doing.do_command.Goals as goal

-- the plan of a text that says it obeys the rules
rules_known : {A : Type 0} (read : Result (PlanText A) CommandFault) → IfOk read IsSaid → IfOk read HasRules
rules_known (Ok t) said = said.rules
rules_known (Err fault) said = tt

pub returns-in-Pipe : goal.returns-in-Pipe
returns-in-Pipe g c = record {
  done = rw c.in-Pipe.is (c.do_pipe.ensures, refl, refl);
  first_calls = λ other. absurd (other c.in-Pipe.is);
  second_calls = uncalled g.Q.Source.called _;
  third_calls = uncalled g.R.Source.called _;
}

pub returns-in-Run-clause-done : goal.returns-in-Run-clause-done
returns-in-Run-clause-done g c = rw c.in-Run.is c.do_run.ensures.done

pub returns-in-RunTelling-clause-done : goal.returns-in-RunTelling-clause-done
returns-in-RunTelling-clause-done g c = rw c.in-RunTelling.is c.do_telling.ensures.done

pub returns-in-Check : goal.returns-in-Check
returns-in-Check g c = record {
  done = rw c.in-Check.is (c.do_check.ensures.done, refl);
  first_calls = λ _. c.do_check.ensures.first_calls;
  second_calls = c.do_check.ensures.second_calls;
  third_calls = uncalled g.R.Source.called _;
}

pub returns-in-Codes : goal.returns-in-Codes
returns-in-Codes g c = record {
  done = rw c.in-Codes.is (c.do_codes.ensures.done, refl, refl);
  first_calls = λ _. c.do_codes.ensures.first_calls;
  second_calls = uncalled g.Q.Source.called _;
  third_calls = uncalled g.R.Source.called _;
}

pub returns-in-Audit : goal.returns-in-Audit
returns-in-Audit g c = record {
  done = rw c.in-Audit.is (c.do_audit.ensures.done, refl, refl);
  first_calls = λ _. c.do_audit.ensures.calls;
  second_calls = uncalled g.Q.Source.called _;
  third_calls = uncalled g.R.Source.called _;
}

pub returns-in-Lint : goal.returns-in-Lint
returns-in-Lint g c = record {
  done = rw c.in-Lint.is (c.do_lint.ensures.done, c.do_lint.ensures.failed, refl);
  first_calls = λ _. c.do_lint.ensures.plan_calls;
  second_calls = c.do_lint.ensures.risks_calls;
  third_calls = uncalled g.R.Source.called _;
}

pub carry_left-requires : goal.carry_left-requires
carry_left-requires g c = record { read = c.read_plans.ensures.known; known = λ t known. known }

pub returns-in-Change : goal.returns-in-Change
returns-in-Change g c =
    let is = rw c.in-Change.is at c.down_of-down.ensures in
    let e = c.carry_left.ensures in
    record {
      done = rw c.in-Change.is (record { texts = e.0; read = (c.read_plans.result, c.read_plans.ensures.texts, rw is at e.1); carried = e.2 }, refl);
      first_calls = λ _. c.read_plans.ensures.old_calls;
      second_calls = c.read_plans.ensures.new_calls;
      third_calls = uncalled g.R.Source.called _;
    }

pub carry_left-requires-in-Order : goal.carry_left-requires-in-Order
carry_left-requires-in-Order g c = record { read = c.read_stopped-texts.ensures.known; known = λ t known. known }

pub returns-in-Order-clause-done : goal.returns-in-Order-clause-done
returns-in-Order-clause-done g c =
    let is = rw c.in-Order.is at c.down_of-down.ensures in
    let e = c.carry_left-in-Order.ensures in
    rw c.in-Order.is
    (record { texts = e.0; read = (c.read_stopped-texts.result, rw c.is_some-done.ensures at c.read_stopped-texts.ensures.texts, rw is at e.1); carried = e.2 })

pub carry_left-requires-in-Mend : goal.carry_left-requires-in-Mend
carry_left-requires-in-Mend g c = record { read = rules_known c.read_this.result c.read_this.ensures.known; known = λ t known. known }

pub returns-in-Mend : goal.returns-in-Mend
returns-in-Mend g c =
    let is = rw c.in-Mend.is at c.down_of-down.ensures in
    let e = c.carry_left-in-Mend.ensures in
    record {
      done = rw c.in-Mend.is (record { texts = e.0; read = (c.read_this.result, c.read_this.ensures.text, rw is at e.1); carried = e.2 }, refl, refl);
      first_calls = λ _. c.read_this.ensures.calls;
      second_calls = uncalled g.Q.Source.called _;
      third_calls = uncalled g.R.Source.called _;
    }

pub carry_left-requires-in-Survive : goal.carry_left-requires-in-Survive
carry_left-requires-in-Survive g c = record { read = c.read_with_risks-texts.ensures.known; known = λ t known. known }

pub returns-in-Survive : goal.returns-in-Survive
returns-in-Survive g c =
    let is = rw c.in-Survive.is at c.down_of-down.ensures in
    let e = c.carry_left-in-Survive.ensures in
    record {
      done = rw c.in-Survive.is (record { texts = e.0; read = (c.read_with_risks-texts.result, rw c.is_some.ensures at c.read_with_risks-texts.ensures.texts, rw is at e.1); carried = e.2 }, refl);
      first_calls = λ _. c.read_with_risks-texts.ensures.first_calls;
      second_calls = c.read_with_risks-texts.ensures.second_calls;
      third_calls = uncalled g.R.Source.called _;
    }

pub carry_left-requires-in-Compare : goal.carry_left-requires-in-Compare
carry_left-requires-in-Compare g c = record { read = c.read_plans_with_risks-texts.ensures.known; known = λ t known. known }

pub returns-in-Compare-clause-done : goal.returns-in-Compare-clause-done
returns-in-Compare-clause-done g c =
    let is = rw c.in-Compare.is at c.down_of-down.ensures in
    let e = c.carry_left-in-Compare.ensures in
    rw c.in-Compare.is
    (record { texts = e.0; read = (c.read_plans_with_risks-texts.result, rw c.is_some-in-Compare.ensures at c.read_plans_with_risks-texts.ensures.texts, rw is at e.1); carried = e.2 })

pub carry_left-requires-in-Page : goal.carry_left-requires-in-Page
carry_left-requires-in-Page g c = record { read = c.read_for_page-texts.ensures.known; known = λ t known. known }

pub returns-in-Page-clause-done : goal.returns-in-Page-clause-done
returns-in-Page-clause-done g c =
    let is = rw c.in-Page.is at c.down_of-down.ensures in
    let e = c.carry_left-in-Page.ensures in
    rw c.in-Page.is
    (record { texts = e.0; read = (c.read_for_page-texts.result, rw (c.is_some-risks.ensures, c.is_some-old.ensures) at c.read_for_page-texts.ensures.texts, rw is at e.1); carried = e.2 })

pub carry_left-requires-in-Grade : goal.carry_left-requires-in-Grade
carry_left-requires-in-Grade g c = record { read = c.read_one.ensures.known; known = λ t known. known }

pub returns-in-Grade : goal.returns-in-Grade
returns-in-Grade g c =
    let is = rw c.in-Grade.is at c.down_of-down.ensures in
    let e = c.carry_left-in-Grade.ensures in
    record {
      done = rw c.in-Grade.is (record { texts = e.0; read = (c.read_one.result, c.read_one.ensures.text, rw is at e.1); carried = e.2 }, refl, refl);
      first_calls = λ _. c.read_one.ensures.calls;
      second_calls = uncalled g.Q.Source.called _;
      third_calls = uncalled g.R.Source.called _;
    }

pub carry_out-requires : goal.carry_out-requires
carry_out-requires g c = c.read_one-in-Trace.ensures.known

pub returns-in-Trace : goal.returns-in-Trace
returns-in-Trace g c = record {
  done = rw c.in-Trace.is (record { texts = c.read_one-in-Trace.result; read = c.read_one-in-Trace.ensures.text; carried = c.carry_out.ensures }, refl, refl);
  first_calls = λ _. c.read_one-in-Trace.ensures.calls;
  second_calls = uncalled g.Q.Source.called _;
  third_calls = uncalled g.R.Source.called _;
}

pub carry_out-requires-in-TraceChanges : goal.carry_out-requires-in-TraceChanges
carry_out-requires-in-TraceChanges g c = c.read_with_old.ensures.known

pub returns-in-TraceChanges : goal.returns-in-TraceChanges
returns-in-TraceChanges g c = record {
  done = rw c.in-TraceChanges.is (record { texts = c.read_with_old.result; read = c.read_with_old.ensures.texts; carried = c.carry_out-in-TraceChanges.ensures }, refl);
  first_calls = λ _. c.read_with_old.ensures.first_calls;
  second_calls = c.read_with_old.ensures.second_calls;
  third_calls = uncalled g.R.Source.called _;
}

pub carry_out-requires-in-TraceThrough : goal.carry_out-requires-in-TraceThrough
carry_out-requires-in-TraceThrough g c = c.read_one-in-TraceThrough.ensures.known

pub returns-in-TraceThrough : goal.returns-in-TraceThrough
returns-in-TraceThrough g c = record {
  done = rw c.in-TraceThrough.is (record { texts = c.read_one-in-TraceThrough.result; read = c.read_one-in-TraceThrough.ensures.text; carried = c.carry_out-in-TraceThrough.ensures }, refl, refl);
  first_calls = λ _. c.read_one-in-TraceThrough.ensures.calls;
  second_calls = uncalled g.Q.Source.called _;
  third_calls = uncalled g.R.Source.called _;
}

pub carry_out-requires-in-Fill : goal.carry_out-requires-in-Fill
carry_out-requires-in-Fill g c = c.read_one-in-Fill.ensures.known

pub returns-in-Fill : goal.returns-in-Fill
returns-in-Fill g c = record {
  done = rw c.in-Fill.is (record { texts = c.read_one-in-Fill.result; read = c.read_one-in-Fill.ensures.text; carried = c.carry_out-in-Fill.ensures }, refl, refl);
  first_calls = λ _. c.read_one-in-Fill.ensures.calls;
  second_calls = uncalled g.Q.Source.called _;
  third_calls = uncalled g.R.Source.called _;
}

pub returns-in-Explain : goal.returns-in-Explain
returns-in-Explain g c = record {
  done = rw c.in-Explain.is (c.do_explain.ensures, refl, refl, refl);
  first_calls = λ other. uncalled g.P.Source.called _;
  second_calls = uncalled g.Q.Source.called _;
  third_calls = uncalled g.R.Source.called _;
}
