use Rattle.tx_requests.proofs.Common.{Ok, Err, inl, inr, refl, exits_with, write_stop}
use Rattle.tx_requests.proofs.carrying.carry_out.Goals as goal

pub answer-requires : goal.answer-requires
answer-requires g c = rw c.in_ok-texts.was at c.requires

pub print-requires : goal.print-requires
print-requires g c = (c.in_ok-texts.texts, rw c.in_ok-texts.was at c.requires, c.in_ok-answer.ensures)

pub end-requires : goal.end-requires
end-requires g c = (c.in_ok-texts.texts, rw c.in_ok-texts.was at c.requires, c.in_ok-answer.ensures)

pub returns-in_err-texts : goal.returns-in_err-texts
returns-in_err-texts g c =
    rw c.in_err-texts.was
    (refl, exits_with c.from_residual.result c.in_err-texts.field-0.0 c.from_residual.ensures.1)

pub returns-in_err-answer : goal.returns-in_err-answer
returns-in_err-answer g c =
    let f = c.in_err-answer.field-0.0 in
    rw c.in_ok-texts.was
    (inl (record {
      fault = f;
      unanswered = c.in_err-answer.ensures;
      silent = refl;
      told = exits_with c.from_residual-in_err-answer.result f c.from_residual-in_err-answer.ensures.1;
    }))

pub returns-in_err-print : goal.returns-in_err-print
returns-in_err-print g c =
    rw c.in_ok-texts.was
    (inr (record {
      answer = c.in_ok-answer.answer;
      written = Err c.in_err-print.field-0.0;
      right = c.in_ok-answer.ensures;
      printed = c.in_err-print.ensures;
      ended = exits_with c.from_residual-in_err-print.result write_stop c.from_residual-in_err-print.ensures.1;
    }))

pub returns : goal.returns
returns g c =
    rw c.in_ok-texts.was
    (inr (record {
      answer = c.in_ok-answer.answer;
      written = Ok tt;
      right = c.in_ok-answer.ensures;
      printed = c.in_ok-print.ensures;
      ended = c.end.ensures;
    }))
