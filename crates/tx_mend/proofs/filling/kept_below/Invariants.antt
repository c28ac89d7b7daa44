use Rattle.tx_mend.proofs.Common.{◌≡◌, ℕ, ◌++◌, ◌≤◌, Option, length, drop, filter, leads_below, rank_list}
use Rattle.tx_mend.proofs.filling.kept_below.Given as goal

abbrev pub invariant-loop-group : goal.invariant-loop-group
invariant-loop-group g l = record {
  few : length l.list.items ≤ l.group-index;
  kept : (of : ℕ → Option ℕ) → l.ranks ≡ rank_list l.plan of → l.list.items ++ filter (λ h. leads_below l.plan of l.rank l.exchange h) (drop l.group-index l.present) ≡ filter (λ h. leads_below l.plan of l.rank l.exchange h) l.present;
}
