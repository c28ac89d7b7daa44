use Rattle.tx_risk.proofs.Common.{subst, AreRisksFor}
use Rattle.tx_risk.proofs.risk_reader.RiskLines.finish.Goals as goal

pub returns-clause-fits : goal.returns-clause-fits
returns-clause-fits g c =
    subst (λ s. AreRisksFor s.0 c.self.inside.risks) c.self.view_is c.self.invariant
