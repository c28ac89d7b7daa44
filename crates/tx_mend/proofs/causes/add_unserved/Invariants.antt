use Rattle.tx_mend.proofs.Common.{◌≡◌, ℕ, ◌&&◌, ◌++◌, map, is_none, filter, is_origin_for, indexes, least_rank, cause_of, Unserved}
use Rattle.tx_mend.proofs.causes.add_unserved.Given as goal

abbrev pub invariant-loop-index : goal.invariant-loop-index
invariant-loop-index g l =
    let p = l.reach.plan.now in
    let code = l.reach.code in
    let told : ℕ → Unserved = λ x. record { code = code; exchange = x; cause = cause_of p code l.reach.limits.limit l.reach.limits.spare x } in
    l.unserved.items ≡ l.initial.unserved.items ++ map told (filter (λ x. is_origin_for p x code && is_none (least_rank p code l.reach.limits.limit l.reach.limits.spare x)) (indexes l.index))
