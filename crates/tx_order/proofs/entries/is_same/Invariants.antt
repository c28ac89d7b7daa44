use Rattle.tx_order.proofs.Common.{◌≡◌, ℕ, ◌<◌, route_list, is_barred, plan_front}
use Rattle.tx_order.proofs.entries.is_same.Given as goal

abbrev pub invariant-loop-index : goal.invariant-loop-index
invariant-loop-index g l = (x : ℕ) → x < l.index → (route_list (plan_front l.transition l.from) x l.code ≡ route_list (plan_front l.transition l.to) x l.code)
    × (is_barred (plan_front l.transition l.from) x l.code ≡ is_barred (plan_front l.transition l.to) x l.code)
