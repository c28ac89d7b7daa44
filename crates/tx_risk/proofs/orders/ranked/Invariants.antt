use Rattle.tx_risk.proofs.Common.{◌≡◌, ◌≤◌, filter, is_some, length, vec_len, vec_capacity, range_with_len, ranks_of}
use Rattle.tx_risk.proofs.orders.ranked.Given as goal

abbrev pub invariant-loop-index : goal.invariant-loop-index
invariant-loop-index g l = record {
  few : vec_len l.ranked ≤ l.index;
  room : length l.plan.exchanges ≤ vec_capacity l.ranked;
  so_far : l.ranked.items ≡ filter (λ x. is_some (ranks_of l.ranks l.code x)) (range_with_len 0 l.index);
}
