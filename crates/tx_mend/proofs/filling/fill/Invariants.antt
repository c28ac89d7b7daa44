use Rattle.tx_mend.proofs.Common.{◌≡◌, ℕ, Option, rank_list}
use Rattle.tx_mend.specs.Lists.{filled, groups_below}
use Rattle.tx_mend.proofs.filling.fill.Given as goal

abbrev pub invariant-loop-lower : goal.invariant-loop-lower
invariant-loop-lower g l = (of : ℕ → Option ℕ) → l.ranks ≡ rank_list l.plan of → l.list.items ≡ filled l.limits.spare l.initial.list.items (groups_below l.plan of l.lower l.exchange)
