use Rattle.tx_mend.proofs.Common.{◌≡◌, ℕ, suc, ◌-◌, ◌++◌, map, filter, indexes, groups_near, lacks_groups, Missing}
use Rattle.tx_mend.proofs.causes.add_missing.Given as goal

abbrev pub invariant-loop-index : goal.invariant-loop-index
invariant-loop-index g l =
    let p = l.reach.plan.now in
    let code = l.reach.code in
    let gap : ℕ → Missing = λ x. record { code = code; exchange = x; groups = suc l.reach.limits.spare - groups_near p code l.reach.limits.limit l.reach.limits.spare x } in
    l.missing.items ≡ l.initial.missing.items ++ map gap (filter (lacks_groups p code l.reach.limits.limit l.reach.limits.spare) (indexes l.index))
