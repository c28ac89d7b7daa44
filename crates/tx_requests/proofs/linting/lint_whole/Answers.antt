use Rattle.tx_requests.proofs.Common.{ℕ, Err, ap, inl, inr, refl, input, output, exits_with, text_stop}
use Rattle.tx_requests.proofs.LintTold.{not_read, text_mark}
use Rattle.tx_requests.proofs.linting.lint_whole.Goals as goal

pub returns-clause-answers : goal.returns-clause-answers
returns-clause-answers g c = inl (record {
  text = c.in_ok-text.text.items;
  whole = c.in_ok-text.ensures.text;
  goes_on = rw c.deref.ensures.value at c.lint_text.ensures.linted;
})

pub returns-in_err-text-clause-answers : goal.returns-in_err-text-clause-answers
returns-in_err-text-clause-answers g c =
    let f = c.in_err-text.field-0.0 in
    let out = c.args.out.now in
    let read =
    input g.P.Source.rest g.P.Source.failed g.P.Source.called c.args.plan.now
    c.read_whole_text.new.source in
    rw (exits_with c.from_residual.result (text_stop f) c.from_residual.ensures.1)
    (inr
    (not_read ℕ read (output g.W.Sink.taken out out) f (λ e. c.in_err-text.ensures.fault (ap Err e)) refl))

pub returns-in_err-text-clause-mark : goal.returns-in_err-text-clause-mark
returns-in_err-text-clause-mark g c =
    let f = c.in_err-text.field-0.0 in
    rw (exits_with c.from_residual.result (text_stop f) c.from_residual.ensures.1)
    (text_mark ℕ (g.W.Sink.failed c.args.out.now) f)
