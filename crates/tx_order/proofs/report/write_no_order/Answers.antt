use Rattle.tx_order.proofs.Common.{◌≡◌, List, sym, puts_then, puts_is, Plan, Finding}
use Rattle.tx_rank.specs.Report.{findings_of}
use Rattle.tx_order.specs.OrderText.{no_order_text}
use Rattle.tx_order.proofs.report.write_no_order.Goals as goal

-- the text of findings is that of lists that are the same
same_text : {A : Type 0} (p : Plan) (before after xs ys : List (Finding A)) → xs ≡ before → ys ≡ after → no_order_text p before after ≡ no_order_text p xs ys
same_text p before after xs ys a b = λ i. no_order_text p (sym a i) (sym b i)

pub returns : goal.returns
returns g c =
    let p = c.args.plan.now in
    let xs = c.findings-before.result.now in
    let ys = c.findings-after.result.now in
    puts_is (same_text p (findings_of c.args.before.now) (findings_of c.args.after.now) xs ys c.findings-before.ensures c.findings-after.ensures) (puts_then c.write_findings_after.ensures (puts_then c.write_findings_after-2.ensures c.write_no.ensures))
