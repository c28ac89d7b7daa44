-- Named risks as the rows of a map.
use Rattle.std.specs.Prelude.{ℕ, List}
use Rattle.tx_risk.specs.NamedRisks.{NamedRisk}
use Rattle.tx_risk.specs.declared.risks.Row.{Row}

-- a name, and what its risk takes away
abbrev pub risk_of_row : {A : Type 0} → List ℕ × Row A → NamedRisk
risk_of_row e = record { name = e.0; groups = e.1.groups.items; unknown = e.1.unknown }
