-- Groups that are marked in a table.
use Rattle.std.specs.Prelude.{Bool, false, List, slice_get}
use Rattle.std.specs.Option.{option_map_or}
use Rattle.tx_risk.specs.Risks.{Risk}

-- the groups of a table that are marked
abbrev pub marked : List Bool → Risk
marked marks g = option_map_or (λ b. b) (slice_get marks g) false
