use Rattle.tx_files.proofs.Common.{inl, inr, refl, exits_with}
use Rattle.tx_files.proofs.Texts.{risks_fit}
use Rattle.tx_files.proofs.Uncalled.{uncalled}
use Rattle.tx_files.proofs.two_plans.read_plans_with_risks.Goals as goal

pub returns-clause-texts : goal.returns-clause-texts
returns-clause-texts g c = (c.in_ok-plans.ensures.texts, c.in_ok-risks.ensures.texts)

pub returns-clause-known : goal.returns-clause-known
returns-clause-known g c = record {
  plans = c.in_ok-plans.ensures.known;
  risks = risks_fit c.in_ok-plans.plans.joined.new _ c.args.named c.in_ok-risks.risks c.in_ok-risks.ensures.texts;
}

pub returns-in_err-plans-clause-texts : goal.returns-in_err-plans-clause-texts
returns-in_err-plans-clause-texts g c =
    rw (exits_with c.from_residual.result c.in_err-plans.field-0.0 c.from_residual.ensures.1)
    (inl (c.in_err-plans.ensures.texts, refl))

pub returns-in_err-plans-clause-risks_calls : goal.returns-in_err-plans-clause-risks_calls
returns-in_err-plans-clause-risks_calls g c = uncalled g.R.Source.called c.args.risks.now

pub returns-in_err-risks-clause-texts : goal.returns-in_err-risks-clause-texts
returns-in_err-risks-clause-texts g c =
    rw (exits_with c.from_residual-in_err-risks.result c.in_err-risks.field-0.0 c.from_residual-in_err-risks.ensures.1)
    (inr (c.in_ok-plans.plans, c.in_ok-plans.ensures.texts, c.in_err-risks.ensures.texts))
