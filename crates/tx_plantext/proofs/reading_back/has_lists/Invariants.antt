use Rattle.tx_plantext.proofs.Common.{◌≡◌, take, AllByRecursion, route_list}
use Rattle.tx_plantext.proofs.reading_back.has_lists.Given as goal

abbrev pub invariant-loop-index : goal.invariant-loop-index
invariant-loop-index g l = AllByRecursion (λ r. route_list l.plan r.exchange r.code ≡ route_list l.other r.exchange r.code) (take l.index l.other.routes)
