use Rattle.tx_mend.proofs.Common.{◌≡◌, ℕ, ◌∙◌, List, length, ap, filter, outgoing, leads_on}
use Rattle.tx_mend.specs.Unserved.{near_rank}
use Rattle.tx_mend.proofs.Tables.{length_ranks, list_got}
use Rattle.tx_mend.proofs.causes.groups_near.Goals as goal

pub count_on-requires : goal.count_on-requires
count_on-requires g c =
    let r = c.args.reach.now in
    length_ranks r.plan.now r.near.now (near_rank r.plan.now r.code r.limits.limit r.limits.spare) r.below

pub returns : goal.returns
returns g c =
    let r = c.args.reach.now in
    let p = r.plan.now in
    let x = c.args.exchange in
    let near = near_rank p r.code r.limits.limit r.limits.spare in
    let groups : c.groups_at-groups.result.now ≡ outgoing p x = c.groups_at-groups.ensures ∙ list_got (outgoing p) (length p.exchanges) x r.seizable.now r.groups c.requires in
    c.count_on.ensures near r.below ∙ ap (λ (l : List ℕ). length (filter (λ g. leads_on p near x g) l)) groups
