use Rattle.tx_mend.proofs.Common.{◌≡◌, ℕ, Option, drop, filter, rank_list}
use Rattle.tx_mend.specs.Lists.{leads_to, filled}
use Rattle.tx_mend.proofs.filling.fill_at.Given as goal

abbrev pub invariant-loop-group : goal.invariant-loop-group
invariant-loop-group g l = (of : ℕ → Option ℕ) → l.ranks ≡ rank_list l.plan of → filled l.limits.spare l.initial.list.items (filter (λ h. leads_to l.plan of l.rank l.exchange h) l.seizable) ≡ filled l.limits.spare l.list.items (filter (λ h. leads_to l.plan of l.rank l.exchange h) (drop l.group-index l.seizable))
