use Rattle.tx_mend.proofs.Common.{◌∙◌, ◌&&◌, None, length, get_or, sym, ap, arith, is_none, nat_lt, none_is, least_rank, groups_near}
use Rattle.tx_mend.proofs.Placed.{value_at}
use Rattle.tx_mend.proofs.causes.lacks_groups.Goals as goal

pub returns-then-is_none : goal.returns-then-is_none
returns-then-is_none g c =
    let r = c.args.reach.now in
    let p = r.plan.now in
    let x = c.args.exchange in
    let at = c.index.ensures in
    let h = c.requires in
    let on = groups_near p r.code r.limits.limit r.limits.spare x in
    let here = none_is (get_or r.least.now c.index.result None) c.is_none.result c.is_none.ensures ∙ ap is_none (value_at (least_rank p r.code r.limits.limit r.limits.spare) (length p.exchanges) c.index.result None r.least.now r.within (omega arith) ∙ ap (least_rank p r.code r.limits.limit r.limits.spare) at) in
    ap (nat_lt 0) c.groups_near.ensures ∙ sym (ap (λ b. b && nat_lt 0 on) (sym here ∙ c.if-is_none.true))

pub returns-else-is_none : goal.returns-else-is_none
returns-else-is_none g c =
    let r = c.args.reach.now in
    let p = r.plan.now in
    let x = c.args.exchange in
    let at = c.index.ensures in
    let h = c.requires in
    let on = groups_near p r.code r.limits.limit r.limits.spare x in
    let here = none_is (get_or r.least.now c.index.result None) c.is_none.result c.is_none.ensures ∙ ap is_none (value_at (least_rank p r.code r.limits.limit r.limits.spare) (length p.exchanges) c.index.result None r.least.now r.within (omega arith) ∙ ap (least_rank p r.code r.limits.limit r.limits.spare) at) in
    c.if-is_none.false ∙ sym (ap (λ b. b && nat_lt 0 on) (sym here ∙ c.if-is_none.false))
