use Rattle.tx_mend.proofs.Common.{◌≡◌, ℕ, suc, ◌+◌, ◌-◌, ◌∙◌, nat_lt, sym, ap, arith, append-nil, is_none, and_parts, least_rank, groups_near, lacks_groups, Missing}
use Rattle.tx_mend.proofs.TrueCauses.{few_near}
use Rattle.tx_mend.proofs.Unranked.{some_pushed, some_passed}
use Rattle.tx_mend.proofs.causes.add_missing.Goals as goal
use Rattle.tx_mend.proofs.causes.add_missing.Goals.{then-lacks_groups+in_ok-push, else-lacks_groups}

pub loop-index-init : goal.loop-index-init
loop-index-init g c = sym (append-nil c.args.missing.now.items)

pub overflow_sub-groups : goal.overflow_sub-groups
overflow_sub-groups g c =
    let r = c.args.reach.now in
    let x = c.of-exchange.result in
    let lacks = and_parts (is_none (least_rank r.plan.now r.code r.limits.limit r.limits.spare x)) (nat_lt 0 (groups_near r.plan.now r.code r.limits.limit r.limits.spare x)) (sym c.lacks_groups.ensures ∙ c.if-lacks_groups.true) in
    let few = few_near r.plan.now r.code r.limits.spare r.limits.limit x lacks.0 in
    let near = c.groups_near.ensures in
    let s = c.from-enough.ensures in
    omega arith

pub loop-index-preserved : goal.loop-index-preserved
loop-index-preserved g c =
    let r = c.args.reach.now in
    let p = r.plan.now in
    let code = r.code in
    let n = c.loop-index.index in
    let near = groups_near p code r.limits.limit r.limits.spare in
    let gap : ℕ → Missing = λ x. record { code = code; exchange = x; groups = suc r.limits.spare - near x } in
    let u = lacks_groups p code r.limits.limit r.limits.spare in
    let at = c.of-exchange.ensures in
    let says = sym (ap u at) ∙ sym c.lacks_groups.ensures in
    elim c.if-lacks_groups.branch [
      | then-lacks_groups+in_ok-push w ↦ (
          let e : c.from-enough.result + 1 ≡ suc r.limits.spare = let s = c.from-enough.ensures in omega arith in
          let k = w.groups_near.ensures ∙ ap near at in
          let groups : (c.from-enough.result + 1) - w.groups_near.result ≡ suc r.limits.spare - near n = (λ i. e i - k i) in
          some_pushed gap u n c.args.missing.now.items c.loop-index.missing.items c.if-lacks_groups.missing.items (record { code = code; exchange = c.of-exchange.result; groups = (c.from-enough.result + 1) - w.groups_near.result }) c.loop-index.invariant (let a = w.missing-is in let b = w.in_ok-push.ensures.items in cc)
          (λ i. record { code = code; exchange = at i; groups = groups i }) (says ∙ w.if-lacks_groups.true))
      | else-lacks_groups w ↦ some_passed gap u n c.args.missing.now.items c.loop-index.missing.items c.if-lacks_groups.missing.items c.loop-index.invariant (let a = w.missing-is in cc) (says ∙ w.if-lacks_groups.false)
    ]
