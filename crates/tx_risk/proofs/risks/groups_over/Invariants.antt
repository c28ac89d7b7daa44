use Rattle.tx_risk.proofs.Common.{◌≡◌, take, filter_map, group_name, group_named}
use Rattle.tx_risk.proofs.risks.groups_over.Given as goal

abbrev pub invariant-loop-i : goal.invariant-loop-i
invariant-loop-i g l =
    l.found.items ≡ filter_map (λ k. group_named l.other (group_name l.plan k)) (take l.i l.groups)
