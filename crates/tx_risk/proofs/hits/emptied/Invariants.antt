use Rattle.tx_risk.proofs.Common.{◌≡◌, take, filter, is_emptied}
use Rattle.tx_risk.proofs.hits.emptied.Given as goal

abbrev pub invariant-loop-end : goal.invariant-loop-end
invariant-loop-end g l = l.emptied.items ≡ filter (is_emptied l.left) (take l.end-index l.ends)
