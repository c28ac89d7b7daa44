use Rattle.tx_files.proofs.Common.{None, inl, inr, refl, exits_with}
use Rattle.tx_files.proofs.Texts.{risks_fit, old_said}
use Rattle.tx_files.proofs.Uncalled.{uncalled}
use Rattle.tx_files.proofs.page_reading.read_for_page.Goals as goal

pub returns-clause-texts : goal.returns-clause-texts
returns-clause-texts g c =
    (c.in_ok-plan.ensures.text, c.in_ok-risks.ensures.texts, c.in_ok-old.ensures.texts)

pub returns-clause-known : goal.returns-clause-known
returns-clause-known g c = record {
  plan = c.in_ok-plan.ensures.text.said.rules;
  risks = risks_fit c.in_ok-plan.plan.plan _ c.args.named c.in_ok-risks.risks c.in_ok-risks.ensures.texts;
  old = old_said _ _ c.args.changed c.in_ok-old.old c.in_ok-old.ensures.texts;
}

pub returns-in_err-plan-clause-texts : goal.returns-in_err-plan-clause-texts
returns-in_err-plan-clause-texts g c =
    rw (exits_with c.from_residual.result c.in_err-plan.field-0.0 c.from_residual.ensures.1)
    (inl (c.in_err-plan.ensures.text, refl, refl))

pub returns-in_err-plan-clause-second_calls : goal.returns-in_err-plan-clause-second_calls
returns-in_err-plan-clause-second_calls g c = uncalled g.Q.Source.called c.args.second.now

pub returns-in_err-plan-clause-third_calls : goal.returns-in_err-plan-clause-third_calls
returns-in_err-plan-clause-third_calls g c = uncalled g.R.Source.called c.args.third.now

pub returns-in_err-risks-clause-texts : goal.returns-in_err-risks-clause-texts
returns-in_err-risks-clause-texts g c =
    rw (exits_with c.from_residual-in_err-risks.result c.in_err-risks.field-0.0 c.from_residual-in_err-risks.ensures.1)
    (inr (inl ((c.in_ok-plan.plan, c.in_ok-plan.ensures.text, c.in_err-risks.ensures.texts), refl)))

pub returns-in_err-risks-clause-third_calls : goal.returns-in_err-risks-clause-third_calls
returns-in_err-risks-clause-third_calls g c = uncalled g.R.Source.called c.args.third.now

pub returns-in_err-old-clause-texts : goal.returns-in_err-old-clause-texts
returns-in_err-old-clause-texts g c =
    rw (exits_with c.from_residual-in_err-old.result c.in_err-old.field-0.0 c.from_residual-in_err-old.ensures.1)
    (inr (inr (record {
      texts = record { plan = c.in_ok-plan.plan; risks = c.in_ok-risks.risks; old = None };
      plan = c.in_ok-plan.ensures.text;
      risks = c.in_ok-risks.ensures.texts;
      refused = c.in_err-old.ensures.texts;
    })))
