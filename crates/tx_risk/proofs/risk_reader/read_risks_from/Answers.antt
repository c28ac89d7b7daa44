use Rattle.tx_risk.proofs.Common.{[], Ok, Err, codes, subst, AtEnd, exits_with, AreRisksFor}
use Rattle.tx_text.specs.Ends.{input}
use Rattle.tx_text.proofs.Beside.{answered_beside, kept_beside}
use Rattle.tx_risk.specs.RiskText.{declare, is_memory}
use Rattle.tx_risk.proofs.risk_reader.read_risks_from.Goals as goal

pub returns-in_err-lines-clause-answer : goal.returns-in_err-lines-clause-answer
returns-in_err-lines-clause-answer g c =
    let p = c.args.plan.now in
    let text = input g.R.Source.rest g.R.Source.failed g.R.Source.called c.args.source.now
    c.read_text.new.source in
    let x = c.in_err-lines.field-0.0 in
    let a = rw c.new.ensures at c.in_err-lines.ensures.answer in
    rw (exits_with c.from_residual.result x c.from_residual.ensures.1)
    (answered_beside declare p (codes "RISKS") 2 [] is_memory text.old text.new text.broken
    text.unread (Err (x.line, x.kind)) a)

pub returns-clause-answer : goal.returns-clause-answer
returns-clause-answer g c =
    let p = c.args.plan.now in
    let text = input g.R.Source.rest g.R.Source.failed g.R.Source.called c.args.source.now
    c.read_text.new.source in
    let s = c.in_ok-lines.lines in
    let a = rw c.new.ensures at c.in_ok-lines.ensures.answer in
    rw c.finish.ensures.risks
    (answered_beside declare p (codes "RISKS") 2 [] is_memory text.old text.new text.broken
    text.unread (Ok s) a)

pub returns-clause-fits : goal.returns-clause-fits
returns-clause-fits g c =
    let p = c.args.plan.now in
    let s = c.in_ok-lines.lines in
    let a = rw c.new.ensures at c.in_ok-lines.ensures.answer in
    subst (λ q. AreRisksFor q c.finish.result)
    (kept_beside declare p (codes "RISKS") 2 [] AtEnd a.0.read s a.0.gives) c.finish.ensures.fits
