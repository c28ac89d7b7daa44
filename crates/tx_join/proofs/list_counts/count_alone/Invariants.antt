use Rattle.tx_join.proofs.Common.{◌≡◌, ◌≤◌, not, length, take, filter, has_both}
use Rattle.tx_join.proofs.list_counts.count_alone.Given as goal

abbrev pub invariant-loop-index : goal.invariant-loop-index
invariant-loop-index g l = (l.count ≡ length (filter (λ r. not (has_both l.other l.plan r.exchange r.code)) (take l.index l.plan.routes))) × (l.count ≤ l.index)
