use Rattle.tx_lint.proofs.Common.{◌∙◌, sym, IfOk-weaker}
use Rattle.tx_lint.proofs.Warned.{list_told, none_told}
use Rattle.tx_lint.proofs.warnings.add_list.Goals as goal

pub returns : goal.returns
returns g c =
    IfOk-weaker c.add_shared_risks.result _ _ (λ x more. list_told c.args.plan.now c.args.risks.now
    c.args.index c.args.line _ c.list.result.now c.args.found.now.items
    c.add_shared_risks.new.found.items c.list.ensures.rules c.in-Some.ensures.value
    c.list.ensures.value more)
    c.add_shared_risks.ensures

pub returns-in_default : goal.returns-in_default
returns-in_default g c =
    none_told c.args.plan.now c.args.risks.now c.args.index c.args.line
    c.args.found.now.items (sym c.in_default.is ∙ c.route_at.ensures.value)
