-- What the words of a route's groups come to.
use Rattle.std.specs.Prelude.{◌≡◌, ℕ, false, not, nat_lt, List, length, map, Option}
use Rattle.std.specs.List.{list_any}
use Rattle.tx_text.specs.Words.{is_name}
use Rattle.tx_plan.specs.Plan.{Plan}
use Rattle.tx_plan.specs.Declaring.{has_group, is_not_outgoing, group_at}
use Rattle.tx_plan.specs.declared.ids.Pair.{Pair}
use Rattle.tx_plan.specs.declared.route_scan.RouteScan.{RouteScan}

-- what a scan of these words finds for a pair
pub record IsScanOf (p : Plan) (pair : Option Pair) (words : List (List ℕ))
    (s : RouteScan) : Type 0 where
  pub bad : s.bad ≡ list_any (λ g. not (is_name g)) words
  pub unknown : s.unknown ≡ list_any (λ g. not (has_group p g)) words
  pub not_outgoing : s.not_outgoing ≡ list_any (is_not_outgoing p pair) words
  pub many : s.many ≡ nat_lt 16 (length words)
  pub list : s.many ≡ false → s.list.items ≡ map (group_at p) words
