use Rattle.tx_files.proofs.Common.{inl, inr, refl, exits_with}
use Rattle.tx_files.proofs.Uncalled.{uncalled}
use Rattle.tx_files.proofs.two_plans.read_with_old.Goals as goal

pub returns-clause-texts : goal.returns-clause-texts
returns-clause-texts g c = (c.in_ok-plan.ensures.text, c.in_ok-old.ensures.text)

pub returns-clause-known : goal.returns-clause-known
returns-clause-known g c = (c.in_ok-plan.ensures.text.said, c.in_ok-old.ensures.text.said)

pub returns-in_err-plan-clause-texts : goal.returns-in_err-plan-clause-texts
returns-in_err-plan-clause-texts g c =
    rw (exits_with c.from_residual.result c.in_err-plan.field-0.0 c.from_residual.ensures.1)
    (inl (c.in_err-plan.ensures.text, refl))

pub returns-in_err-plan-clause-second_calls : goal.returns-in_err-plan-clause-second_calls
returns-in_err-plan-clause-second_calls g c = uncalled g.Q.Source.called c.args.second.now

pub returns-in_err-old-clause-texts : goal.returns-in_err-old-clause-texts
returns-in_err-old-clause-texts g c =
    rw (exits_with c.from_residual-in_err-old.result c.in_err-old.field-0.0 c.from_residual-in_err-old.ensures.1)
    (inr (record { plan = c.in_ok-plan.plan; read = c.in_ok-plan.ensures.text; refused = c.in_err-old.ensures.text }))
