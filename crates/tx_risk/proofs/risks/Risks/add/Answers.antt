use Rattle.tx_risk.proofs.Common.{List, [], ◌∷◌, ◌++◌, map, refl, ap, ◌∙◌, list_any, bytes_eq, NamedRisk, risk_of_row}
use Rattle.std.proofs.lemmas.List.{map_push}
use Rattle.tx_plan.proofs.Lookups.{entry_last}
use Rattle.tx_risk.proofs.Rows.{any_risk}
use Rattle.tx_risk.proofs.risks.Risks.add.Goals as goal

pub returns-clause-ok : goal.returns-clause-ok
returns-clause-ok g c =
    let name = c.args.name in
    let rows = c.self.inside.rows.entries in
    let absent = any_risk name rows
    ∙ ap (list_any (λ (r : NamedRisk). bytes_eq name r.name)) c.self.view_is ∙ c.requires in
    ap (map risk_of_row) (c.in_ok-insert.ensures.entries
    ∙ entry_last bytes_eq c.self.inside.rows rows name c.args.row refl absent)
    ∙ map_push risk_of_row rows (name, c.args.row)
    ∙ ap (λ (rs : List NamedRisk). rs ++ risk_of_row (name, c.args.row) ∷ []) c.self.view_is
