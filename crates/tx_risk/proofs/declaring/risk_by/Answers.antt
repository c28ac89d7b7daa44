use Rattle.tx_risk.proofs.Common.{rules, exits_with}
use Rattle.tx_risk.specs.declared.fault.RiskWord.TheVariants.{NoMemory}
use Rattle.tx_risk.proofs.declaring.risk_by.Goals as goal

pub returns-in_err-add_risk-clause-declared : goal.returns-in_err-add_risk-clause-declared
returns-in_err-add_risk-clause-declared g c =
    rw (exits_with c.from_residual.result NoMemory c.from_residual.ensures.1) (search rules)

pub returns-in_err-add_risk-clause-same : goal.returns-in_err-add_risk-clause-same
returns-in_err-add_risk-clause-same g c =
    rw (exits_with c.from_residual.result NoMemory c.from_residual.ensures.1)
    c.in_err-add_risk.ensures.same
