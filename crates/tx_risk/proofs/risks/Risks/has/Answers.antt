use Rattle.tx_risk.proofs.Common.{◌∙◌, ap, list_any, bytes_eq, NamedRisk}
use Rattle.std.proofs.lemmas.Map.Made.{is_some-lookup}
use Rattle.tx_risk.proofs.Rows.{any_risk}
use Rattle.tx_risk.proofs.risks.Risks.has.Goals as goal

pub returns : goal.returns
returns g c =
    let name = c.args.name.now in
    let rows = c.self.inside.rows.entries in
    c.contains_key.ensures ∙ is_some-lookup (bytes_eq name) rows ∙ any_risk name rows
    ∙ ap (list_any (λ (r : NamedRisk). bytes_eq name r.name)) c.self.view_is
