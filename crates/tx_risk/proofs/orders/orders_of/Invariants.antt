use Rattle.tx_risk.proofs.Common.{◌≡◌, ℕ, ◌≤◌, length, Some, vec_capacity, slice_get, Vec, net_of, ranks_of, IsOrder, IsByRank}
use Rattle.tx_risk.proofs.orders.orders_of.Given as goal

abbrev pub invariant-loop-index : goal.invariant-loop-index
invariant-loop-index g l = record {
  long : length l.orders.items ≡ l.index;
  each : (c : ℕ) (order : Vec ℕ g.row.A.Denot) → slice_get l.orders.items c ≡ Some order
      → IsOrder (net_of l.plan c) order.items × IsByRank (ranks_of l.ranks c) order.items;
  room : length l.plan.codes ≤ vec_capacity l.orders;
}
