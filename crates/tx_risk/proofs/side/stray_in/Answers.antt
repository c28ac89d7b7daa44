use Rattle.std.proofs.Common.{◌∙◌, ap}
use Rattle.tx_plan.specs.Plan.{figures_of}
use Rattle.tx_risk.specs.Compared.{stray_named}
use Rattle.tx_risk.proofs.side.stray_in.Goals as goal

pub returns : goal.returns
returns g c =
    let p = c.args.plan.now in let q = c.args.other.now in let cuts = c.args.cuts.now in
    c.stray_named.ensures
    ∙ ap (λ f. stray_named q cuts f c.exchange_name.result.now) c.code_figures-figures.ensures.value
    ∙ ap (λ s. stray_named q cuts (figures_of p c.args.cut.now.code) s) c.exchange_name.ensures.value
