use Rattle.tx_risk.proofs.Common.{List, [], Some, None, ◌∙◌, ap, slice_get, option_map_or, value_at, NamedRisk, risk_of_row}
use Rattle.tx_risk.proofs.risks.Risks.groups.Goals as goal

pub returns-in-Some : goal.returns-in-Some
returns-in-Some g c =
    c.as_slice.ensures.value ∙ value_at risk_of_row (λ (r : NamedRisk). r.groups) [] c.self.inside.rows.entries
    c.args.index (Some (c.in-Some.field-0-0.now, c.in-Some.row.now)) c.in-Some.ensures.entry
    ∙ ap (λ (rs : List NamedRisk). option_map_or (λ r. r.groups) (slice_get rs c.args.index) []) c.self.view_is

pub returns-in-None : goal.returns-in-None
returns-in-None g c =
    value_at risk_of_row (λ (r : NamedRisk). r.groups) [] c.self.inside.rows.entries c.args.index None
    c.in-None.ensures.entry
    ∙ ap (λ (rs : List NamedRisk). option_map_or (λ r. r.groups) (slice_get rs c.args.index) []) c.self.view_is
