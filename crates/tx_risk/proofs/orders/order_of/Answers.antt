use Rattle.tx_risk.proofs.Common.{subst, rules, IsPermutation, ranks_of, net_of, is_net, rank_or_0}
use Rattle.std.proofs.lemmas.List.Sorted.{IsNonDecreasingBy-from_sort_by_key}
use Rattle.tx_risk.proofs.Ordering.{by_rank, are_ranked}
use Rattle.tx_risk.proofs.orders.order_of.Goals as goal

pub returns-clause-order : goal.returns-clause-order
returns-clause-order g c =
    let p = c.args.plan.now in
    let code = c.args.code in
    let ranks = ranks_of c.args.ranks.now code in
    let k = c.requires.certified in
    let sorted = c.sort_unstable_by_key.new.self.items in
    by_rank (net_of p code) (is_net p c.in_ok-order.ensures.rules code c.requires.code) ranks k.0 k.1
    k.2 sorted
    (subst (λ xs. IsPermutation xs sorted) c.in_ok-order.ensures.ranked
    c.sort_unstable_by_key.ensures.permutation)
    (IsNonDecreasingBy-from_sort_by_key (rank_or_0 ranks) sorted
    c.sort_unstable_by_key.ensures.sorted (λ a r q k. search rules))

pub returns-clause-by_rank : goal.returns-clause-by_rank
returns-clause-by_rank g c =
    let p = c.args.plan.now in
    let code = c.args.code in
    let ranks = ranks_of c.args.ranks.now code in
    let k = c.requires.certified in
    let sorted = c.sort_unstable_by_key.new.self.items in
    are_ranked (net_of p code) (is_net p c.in_ok-order.ensures.rules code c.requires.code) ranks k.0 k.1
    k.2 sorted
    (subst (λ xs. IsPermutation xs sorted) c.in_ok-order.ensures.ranked
    c.sort_unstable_by_key.ensures.permutation)
    (IsNonDecreasingBy-from_sort_by_key (rank_or_0 ranks) sorted
    c.sort_unstable_by_key.ensures.sorted (λ a r q k. search rules))
