use Rattle.tx_mend.proofs.Common.{◌≡◌, suc, ◌+◌, ◌∙◌, arith, IfOk-weaker, ranked_in, list_with, can_follow_keeping, rank_list, ranked}
use Rattle.tx_mend.proofs.Local.{keeping_same}
use Rattle.tx_mend.proofs.Trying.{tried_is}
use Rattle.tx_mend.proofs.put_back.tried_ranks.Goals as goal

pub invariant_of-trial : goal.invariant_of-trial
invariant_of-trial g c =
    let t = c.args.task.now in
    record {
      right = t.groups;
      long = c.requires;
      local = λ a b e x. keeping_same t.plan.now c.rules.ensures a b e t.limits.spare (list_with t.plan.now c.args.code (ranked c.args.ranks.now) c.args.exchange c.args.group) x;
    }

pub returns : goal.returns
returns g c =
    let t = c.args.task.now in
    let p = t.plan.now in
    let next : t.limits.limit + 1 ≡ suc t.limits.limit = omega arith in
    IfOk-weaker c.ranks_after.result _ _ (λ tried made of e.
    made
    ∙ (λ i. rank_list p (ranked_in (c.home.ensures i) (can_follow_keeping p t.limits.spare (list_with p c.args.code (ranked c.args.ranks.now) c.args.exchange c.args.group)) (next i)))
    ∙ tried_is p c.rules.ensures c.args.ranks.now of e c.args.code t.limits.limit t.limits.spare c.args.exchange c.args.group) c.ranks_after.ensures
