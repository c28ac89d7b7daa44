use Rattle.tx_risk.proofs.Common.{ℕ, not, sym, ap, subst, rules, IsPartitionPoint-from_clause, ranks_of, net_of, Falls, certifies_code, Left, IsLeft, gone, left_net, IsByRank, is_above}
use Rattle.tx_risk.proofs.Ordering.{falls_left, above_last, only_dead_ends}
use Rattle.tx_risk.proofs.cutting.not_above.Goals as goal

pub returns : goal.returns
returns g c =
    let l = c.args.left.now in
    let all = ranks_of c.args.ranks.now in
    let ends = c.args.dead_ends.now in
    let order = c.args.order.now in
    let k = c.requires.certified in
    let is = subst IsLeft c.left.view_is c.left.invariant in
    let code = ap (λ (m : Left). m.code) c.left.view_is in
    let cert = certifies_code l.plan all k.0 k.1 k.2 l.code is.code in
    let by = subst (λ (d : ℕ). IsByRank (all d) order) (sym code) c.requires.by_rank in
    let at = c.left.inside.code in
    let falls = falls_left (gone l) (net_of l.plan l.code) (all l.code) k.0 k.1 cert in
    only_dead_ends (all at) order ends by (left_net l)
    (subst (λ (d : ℕ). Falls (left_net l) (all d)) (sym code) falls) c.requires.order c.requires.dead_ends
    c.partition_point.result
    (IsPartitionPoint-from_clause (λ x. not (is_above (all at) ends x)) order c.partition_point.result
    c.partition_point.ensures.partitioned (above_last (all at) order ends by) (λ a r q k. search rules))
