use mir.Val.{bool_byte}
use Rattle.tx_risk_report.proofs.Common.{◌≡◌, ◌+◌, ◌∙◌, if◌then◌else◌, true, false, refl, ap}
use Rattle.tx_risk_report.specs.Comparison.{is_lower}
use Rattle.tx_risk_report.proofs.comparison.count_worse.Goals as goal

pub returns : goal.returns
returns g c =
    let lower : c.from.result ≡ (if is_lower c.args.new c.args.old then 1 else 0) = c.from.ensures
    ∙ elim c.is_lower.result as (λ b. bool_byte b ≡ (if b then 1 else 0)) [ true ↦ refl | false ↦ refl ]
    ∙ ap (λ b. if b then 1 else 0) c.is_lower.ensures in
    λ i. c.count_worse_outages.ensures i + lower i
