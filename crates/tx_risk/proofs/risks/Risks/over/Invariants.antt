use Rattle.tx_risk.proofs.Common.{◌≡◌, map, take, risk_in}
use Rattle.tx_risk.proofs.risks.Risks.over.Given as goal

abbrev pub invariant-loop-index : goal.invariant-loop-index
invariant-loop-index g l = l.risks ≡ map (risk_in l.plan l.other) (take l.index l.self)
