use Rattle.tx_files.proofs.Common.{refl, sym, ap, PlanText}
use Rattle.tx_files.proofs.LeftTexts.{risks_stay}
use Rattle.tx_files.proofs.left.PageTextsPlansRead.leave_out.Goals as goal

pub returns-clause-known : goal.returns-clause-known
returns-clause-known g c = record {
  plan = c.in_ok-plan.ensures.rules;
  risks = risks_stay c.args.self.plan.plan c.in_ok-plan.plan.plan c.args.self.risks
      (ap (λ (t : PlanText g.row.A.Denot). t.plan.groups) (sym c.in_ok-plan.ensures.left)) c.requires.risks;
  old = c.in_ok-old.ensures.rules;
}
