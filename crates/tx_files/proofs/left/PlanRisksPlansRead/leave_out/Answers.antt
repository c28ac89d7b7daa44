use Rattle.tx_files.proofs.Common.{refl, sym, ap, Plan}
use Rattle.tx_files.proofs.LeftTexts.{risks_stay}
use Rattle.tx_files.proofs.left.PlanRisksPlansRead.leave_out.Goals as goal

pub returns-clause-known : goal.returns-clause-known
returns-clause-known g c =
    risks_stay c.args.self.plan c.in_ok-plan.plan c.args.self.risks
    (ap (λ (p : Plan). p.groups) (sym c.in_ok-plan.ensures.left)) c.requires
