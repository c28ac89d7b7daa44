-- Exchanges in an order in which their lists lead back.
use Rattle.std.specs.Prelude.{◌≡◌, ◌≢◌, ℕ, ◌<◌, ◌≤◌, nat_lt, Bool, List, Option, length, Vec, Some, slice_get, take, unwrap_or}
use Rattle.std.specs.List.{list_any}
use Rattle.std.specs.List.Sorted.{IsNonDecreasingBy}
use Rattle.tx_plan.specs.Plan.{Plan}
use Rattle.tx_plan.specs.Certified.{Ranks}
use Rattle.tx_plan.specs.Among.{Among}
use Rattle.tx_rank.specs.Walks.{Net, net_of}
use Rattle.tx_rank.specs.Heights.{IsReached}

-- An order of exchanges: each exchange of a walk is there, and the groups of each but the home lead
-- to exchanges before it.
pub record IsOrder (n : Net) (order : List ℕ) : Type 0 where
  pub few : length order ≤ n.exchanges
  pub within : (x : ℕ) → Among x order → x < n.exchanges
  pub reached : (x : ℕ) → IsReached n x → Among x order
  pub back : (i x : ℕ) → slice_get order i ≡ Some x → x ≢ n.home
      → (g y : ℕ) → Among g (n.list x) → n.far g x ≡ Some y → Among y (take i order)

-- the rank of x, or 0 where it has none
abbrev pub rank_or_0 : (ℕ → Option ℕ) → ℕ → ℕ
rank_or_0 ranks x = unwrap_or (ranks x) 0

-- all exchanges of an order are ranked, and none of them below one before it
pub record IsByRank (ranks : ℕ → Option ℕ) (order : List ℕ) : Type 0 where
  pub ranked : (x : ℕ) → Among x order → (r : ℕ) × (ranks x ≡ Some r)
  pub rising : IsNonDecreasingBy (rank_or_0 ranks) order

-- x is ranked above one of these
abbrev pub is_above : (ℕ → Option ℕ) → List ℕ → (x : ℕ) → Bool
is_above ranks others x = list_any (λ y. nat_lt (rank_or_0 ranks y) (rank_or_0 ranks x)) others

-- one for each code
pub record AreOrders {A : Type 0} (p : Plan) (ranks : Ranks) (orders : List (Vec ℕ A)) : Type 0 where
  pub long : length orders ≡ length p.codes
  pub each : (c : ℕ) (order : Vec ℕ A) → slice_get orders c ≡ Some order
      → IsOrder (net_of p c) order.items × IsByRank (ranks c) order.items
