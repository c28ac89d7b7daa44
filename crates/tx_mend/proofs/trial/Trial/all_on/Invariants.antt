use Rattle.tx_mend.proofs.Common.{◌≡◌, ℕ, ◌||◌, ◌&&◌, ◌==◌, not, Bool, Option, drop, list_all, leads_on, stays_by, rank_list, ranked}
use Rattle.tx_mend.proofs.trial.Trial.all_on.Given as goal

abbrev pub invariant-loop-group : goal.invariant-loop-group
invariant-loop-group g l = (of : ℕ → Option ℕ) → l.ranks ≡ rank_list l.self.plan.now of →
    let on : ℕ → Bool = λ h. not (stays_by l.self.plan.now (ranked l.self.ranks.now) l.exchange h || ((l.exchange == l.self.exchange) && (h == l.self.group))) || leads_on l.self.plan.now of l.exchange h in
    list_all on l.list ≡ list_all on (drop l.group-index l.list)
