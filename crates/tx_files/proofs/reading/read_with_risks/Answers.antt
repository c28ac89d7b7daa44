use Rattle.tx_files.proofs.Common.{inl, inr, refl, exits_with, plan_stop}
use Rattle.tx_files.proofs.Texts.{risks_fit}
use Rattle.tx_files.proofs.Uncalled.{uncalled}
use Rattle.tx_files.proofs.reading.read_with_risks.Goals as goal

pub returns-clause-texts : goal.returns-clause-texts
returns-clause-texts g c =
    ((c.in_ok-plan.ensures.rules, c.in_ok-plan.ensures.answer), c.in_ok-risks.ensures.texts)

pub returns-clause-known : goal.returns-clause-known
returns-clause-known g c =
    risks_fit c.in_ok-plan.plan _ c.args.named c.in_ok-risks.risks c.in_ok-risks.ensures.texts

pub returns-in_err-plan-clause-texts : goal.returns-in_err-plan-clause-texts
returns-in_err-plan-clause-texts g c =
    let f = c.in_err-plan.field-0.0 in
    rw (exits_with c.from_residual.result (plan_stop f) c.from_residual.ensures.1)
    (inl (record { fault = f; read = c.in_err-plan.ensures.answer; is = refl }, refl))

pub returns-in_err-plan-clause-second_calls : goal.returns-in_err-plan-clause-second_calls
returns-in_err-plan-clause-second_calls g c = uncalled g.Q.Source.called c.args.second.now

pub returns-in_err-risks-clause-texts : goal.returns-in_err-risks-clause-texts
returns-in_err-risks-clause-texts g c =
    let f = c.in_err-risks.field-0.0 in
    rw (exits_with c.from_residual-in_err-risks.result f c.from_residual-in_err-risks.ensures.1)
    (inr (c.in_ok-plan.plan, (c.in_ok-plan.ensures.rules, c.in_ok-plan.ensures.answer), c.in_err-risks.ensures.texts))
