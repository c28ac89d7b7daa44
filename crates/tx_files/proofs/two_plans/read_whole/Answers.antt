use Rattle.tx_files.proofs.Common.{Err, ap, inl, inr, input, exits_with, text_stop}
use Rattle.tx_files.proofs.Texts.{not_whole}
use Rattle.tx_files.proofs.two_plans.read_whole.Goals as goal

pub returns-in-Ok-clause-text : goal.returns-in-Ok-clause-text
returns-in-Ok-clause-text g c = record {
  whole = c.in_ok-text.ensures.text;
  said = record { says = rw c.deref.ensures.value at c.in-Ok.ensures; rules = c.rules.ensures };
}

pub returns-in-Err-clause-text : goal.returns-in-Err-clause-text
returns-in-Err-clause-text g c = inl (record {
  text = c.in_ok-text.text.items;
  whole = c.in_ok-text.ensures.text;
  of = c.in-Err.fault;
  answer = rw c.deref.ensures.value at c.in-Err.ensures;
  told = c.of_plan.ensures;
})

pub returns-in_err-text-clause-text : goal.returns-in_err-text-clause-text
returns-in_err-text-clause-text g c =
    let f = c.in_err-text.field-0.0 in
    let read = input g.S.Source.rest g.S.Source.failed g.S.Source.called c.args.source.now c.read_whole_text.new.source in
    rw (exits_with c.from_residual.result (text_stop f) c.from_residual.ensures.1) (inr (not_whole read f (λ e. c.in_err-text.ensures.fault (ap Err e))))

pub returns-in-Ok-clause-known : goal.returns-in-Ok-clause-known
returns-in-Ok-clause-known g c =
    record { says = rw c.deref.ensures.value at c.in-Ok.ensures; rules = c.rules.ensures }
