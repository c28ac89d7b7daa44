use Rattle.tx_risk.proofs.Common.{[], Ok, Err, codes, subst, AtEnd, exits_with, AreRisksFor}
use Rattle.tx_text.proofs.Beside.{answers_beside, kept_beside}
use Rattle.tx_risk.specs.RiskText.{declare, is_memory}
use Rattle.tx_risk.proofs.risk_reader.read_risks.Goals as goal

pub returns-in_err-lines-clause-answer : goal.returns-in_err-lines-clause-answer
returns-in_err-lines-clause-answer g c =
    let x = c.in_err-lines.field-0.0 in
    let a = rw c.new.ensures at c.in_err-lines.ensures in
    rw (exits_with c.from_residual.result x c.from_residual.ensures.1)
    (answers_beside declare c.args.plan.now (codes "RISKS") 2 [] is_memory c.args.text.now
    (Err (x.line, x.kind)) a)

pub returns-clause-answer : goal.returns-clause-answer
returns-clause-answer g c =
    let a = rw c.new.ensures at c.in_ok-lines.ensures in
    rw c.finish.ensures.risks
    (answers_beside declare c.args.plan.now (codes "RISKS") 2 [] is_memory c.args.text.now
    (Ok c.in_ok-lines.lines) a)

pub returns-clause-fits : goal.returns-clause-fits
returns-clause-fits g c =
    let a = rw c.new.ensures at c.in_ok-lines.ensures in
    subst (λ q. AreRisksFor q c.finish.result)
    (kept_beside declare c.args.plan.now (codes "RISKS") 2 [] AtEnd c.args.text.now
    c.in_ok-lines.lines a) c.finish.ensures.fits
