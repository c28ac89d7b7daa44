use Rattle.tx_risk.proofs.Common.{subst, Declared}
use Rattle.tx_text.specs.inner.Beside.{beside}
use Rattle.tx_text.proofs.Beside.{declared_beside}
use Rattle.tx_risk.specs.RiskText.{declare, is_memory}
use Rattle.tx_risk.proofs.RiskLines.{line_keeps}
use Rattle.tx_risk.proofs.risk_reader.RiskLinesDeclares.declare.Goals as goal

pub invariant_of-self : goal.invariant_of-self
invariant_of-self g c =
    line_keeps c.self.inside.plan.now c.args.version c.self.inside.risks c.declare.new.risks
    c.args.words c.declare.result c.self.invariant c.declare.ensures.declared c.declare.ensures.same

pub returns : goal.returns
returns g c =
    let p = c.self.inside.plan.now in
    let new = c.declare.new.risks in
    let r = c.declare.result in
    subst (λ s. Declared is_memory (beside declare c.args.version s c.args.words) (p, new) r)
    c.self.view_is
    (declared_beside declare p is_memory c.args.version c.self.inside.risks new c.args.words r
    c.declare.ensures.declared)
