use Rattle.tx_mend.proofs.Common.{ℕ, ◌∙◌, ap, IfOk-weaker, ranked_in, can_follow, rank_list}
use Rattle.tx_mend.proofs.Local.{can_follow_same}
use Rattle.tx_mend.proofs.code_ranks.least_ranks.Goals as goal

pub invariant_of-by_groups : goal.invariant_of-by_groups
invariant_of-by_groups g c =
    let t = c.args.task.now in
    record { right = t.groups; local = λ a b e x. can_follow_same t.plan.now c.rules.ensures a b e t.limits.spare x }

pub returns : goal.returns
returns g c =
    let t = c.args.task.now in
    IfOk-weaker c.ranks_after.result _ _ (λ ranks is. is ∙ ap (λ (h : ℕ). rank_list t.plan.now (ranked_in h (can_follow t.plan.now t.limits.spare) c.args.rounds)) c.home.ensures) c.ranks_after.ensures
