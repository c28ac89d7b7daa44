use Rattle.tx_order.proofs.Common.{ℕ, List, sym, subst, IfOk, Plan, rank_at, Net, AreOrigins, IsJudged, change_net, Joined, AreJoined, plan_front}
use Rattle.tx_order.proofs.TwoFronts.{net_is, net_rules}
use Rattle.tx_order.proofs.between.rank_between.Goals as goal

pub invariant_of-net : goal.invariant_of-net
invariant_of-net g c =
    let w = c.args.transition.now in
    let joined = subst (λ (j : List Joined). AreJoined (plan_front w c.args.from) (plan_front w c.args.to) c.args.code j) (sym c.deref.ensures.value) c.in_ok-lists.ensures in
    record {
      right = subst (λ (p : Plan). AreOrigins p c.args.origins.now) (sym c.old_plan.ensures) c.requires.origins;
      net = net_rules w c.rules.ensures c.old_plan.result.now c.old_plan.ensures c.args.code c.args.from c.args.to c.requires.code c.deref.result.now joined;
    }

pub returns-clause-judged : goal.returns-clause-judged
returns-clause-judged g c =
    let w = c.args.transition.now in
    let joined = subst (λ (j : List Joined). AreJoined (plan_front w c.args.from) (plan_front w c.args.to) c.args.code j) (sym c.deref.ensures.value) c.in_ok-lists.ensures in
    let is = net_is w c.rules.ensures c.old_plan.result.now c.old_plan.ensures c.args.code c.args.from c.args.to c.requires.code c.deref.result.now joined in
    let judged = λ (n : Net) (limit spare : ℕ). IfOk c.rank_code.result (λ _. IsJudged n c.args.code limit spare c.args.findings.now.items c.rank_code.new.findings.items (rank_at c.rank_code.new.cert c.args.code)) in
    let net = change_net (plan_front w c.args.from) (plan_front w c.args.to) c.args.code in
    subst (λ (k : ℕ). judged net w.limit k) c.limits-limits.ensures.spare
    (subst (λ (l : ℕ). judged net l c.limits-limits.result.spare) c.limits-limits.ensures.limit
    (subst (λ (n : Net). judged n c.limits-limits.result.limit c.limits-limits.result.spare) is c.rank_code.ensures.judged))
