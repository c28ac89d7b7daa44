-- The names of risks, as the keys of a map.
use Rattle.tx_risk.proofs.Common.{◌≡◌, ℕ, List, map, sym, ◌∙◌, list_any, bytes_eq, NamedRisk, risk_of_row}
use Rattle.std.specs.Map.{keys_of}
use Rattle.tx_plan.proofs.Tables.{list_any-map}
use Rattle.tx_risk.specs.declared.risks.Row.{Row}

-- a key has the name where a risk has it
pub any_risk : {A : Type 0} (name : List ℕ) (es : List (List ℕ × Row A))
    → list_any (bytes_eq name) (keys_of es)
    ≡ list_any (λ (r : NamedRisk). bytes_eq name r.name) (map risk_of_row es)
any_risk name es =
    list_any-map (bytes_eq name) (λ e. e.0) es
    ∙ sym (list_any-map (λ (r : NamedRisk). bytes_eq name r.name) risk_of_row es)
