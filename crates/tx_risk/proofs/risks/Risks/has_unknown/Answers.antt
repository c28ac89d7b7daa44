use Rattle.tx_risk.proofs.Common.{List, false, Some, None, ◌∙◌, ap, slice_get, option_map_or, value_at, NamedRisk, risk_of_row}
use Rattle.tx_risk.proofs.risks.Risks.has_unknown.Goals as goal

pub returns-in-Some : goal.returns-in-Some
returns-in-Some g c =
    value_at risk_of_row (λ (r : NamedRisk). r.unknown) false c.self.inside.rows.entries
    c.args.index (Some (c.in-Some.field-0-0.now, c.in-Some.row.now)) c.in-Some.ensures.entry
    ∙ ap (λ (rs : List NamedRisk). option_map_or (λ r. r.unknown) (slice_get rs c.args.index) false) c.self.view_is

pub returns-in-None : goal.returns-in-None
returns-in-None g c =
    value_at risk_of_row (λ (r : NamedRisk). r.unknown) false c.self.inside.rows.entries c.args.index None
    c.in-None.ensures.entry
    ∙ ap (λ (rs : List NamedRisk). option_map_or (λ r. r.unknown) (slice_get rs c.args.index) false) c.self.view_is
