use Rattle.std.proofs.Common.{◌≡◌, ◌↔◌, ℕ, true, List, Option, sym, subst, IfOk}
use Rattle.tx_order.proofs.Common.{Plan, Net, Certifies, AreOrigins, change_net, Joined, AreJoined, plan_front}
use Rattle.tx_order.proofs.TwoFronts.{net_is, net_rules}
use Rattle.tx_order.proofs.joining.joins.Goals as goal

pub invariant_of-net : goal.invariant_of-net
invariant_of-net g c =
    let w = c.args.transition.now in
    let joined = subst (λ (j : List Joined). AreJoined (plan_front w c.args.from) (plan_front w c.args.to) c.args.code j) (sym c.deref.ensures.value) c.in_ok-lists.ensures in
    record {
      right = subst (λ (p : Plan). AreOrigins p c.args.origins.now) (sym c.old_plan.ensures) c.requires.origins;
      net = net_rules w c.rules.ensures c.old_plan.result.now c.old_plan.ensures c.args.code c.args.from c.args.to c.requires.code c.deref.result.now joined;
    }

pub returns : goal.returns
returns g c =
    let w = c.args.transition.now in
    let joined = subst (λ (j : List Joined). AreJoined (plan_front w c.args.from) (plan_front w c.args.to) c.args.code j) (sym c.deref.ensures.value) c.in_ok-lists.ensures in
    let is = net_is w c.rules.ensures c.old_plan.result.now c.old_plan.ensures c.args.code c.args.from c.args.to c.requires.code c.deref.result.now joined in
    let can = λ (n : Net) (limit spare : ℕ). IfOk c.can_be_certified.result (λ safe. (safe ≡ true) ↔ ((ranks : ℕ → Option ℕ) × Certifies n ranks limit spare)) in
    let net = change_net (plan_front w c.args.from) (plan_front w c.args.to) c.args.code in
    subst (λ (k : ℕ). can net w.limit k) c.limits-limits.ensures.spare
    (subst (λ (l : ℕ). can net l c.limits-limits.result.spare) c.limits-limits.ensures.limit
    (subst (λ (n : Net). can n c.limits-limits.result.limit c.limits-limits.result.spare) is c.can_be_certified.ensures))
