use Rattle.tx_mend.proofs.Common.{◌≡◌, ℕ, ◌∙◌, Option, Some, None, length, sym, ap, arith, option_map_or, Rank, Groups, groups_on, unlimited_rank}
use Rattle.tx_mend.proofs.Placed.{value_at}
use Rattle.tx_mend.proofs.causes.cause_of.Goals as goal

pub returns-in-Some : goal.returns-in-Some
returns-in-Some g c =
    let r = c.args.reach.now in
    let p = r.plan.now in
    let x = c.args.exchange in
    let at = c.index.ensures in
    let h = c.requires in
    let of = unlimited_rank p r.code r.limits.spare in
    let here : of x ≡ Some c.in-Some.rank = sym (value_at of (length p.exchanges) c.index.result None r.unlimited.now r.without (omega arith) ∙ ap of at) ∙ c.in-Some.is in
    sym (ap (λ (o : Option ℕ). option_map_or (λ r. Rank r) o (Groups (groups_on p r.code r.limits.limit r.limits.spare x))) here)

pub returns-in-None : goal.returns-in-None
returns-in-None g c =
    let r = c.args.reach.now in
    let p = r.plan.now in
    let x = c.args.exchange in
    let at = c.index.ensures in
    let h = c.requires in
    let of = unlimited_rank p r.code r.limits.spare in
    let here : of x ≡ None = sym (value_at of (length p.exchanges) c.index.result None r.unlimited.now r.without (omega arith) ∙ ap of at) ∙ c.in-None.is in
    ap Groups c.groups_on.ensures ∙ sym (ap (λ (o : Option ℕ). option_map_or (λ r. Rank r) o (Groups (groups_on p r.code r.limits.limit r.limits.spare x))) here)
