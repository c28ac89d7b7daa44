use Rattle.tx_mend.proofs.Common.{◌∙◌, sym, ap, is_some, if◌then◌else◌, route_list}
use Rattle.tx_mend.specs.inner.Full.{list_among}
use Rattle.tx_mend.proofs.settling.settled_list.Goals as goal

pub returns-then-is_some : goal.returns-then-is_some
returns-then-is_some g c =
    let x = c.args.exchange in
    let code = c.args.code in
    c.group_list.ensures ∙ sym (ap (λ b. if b then route_list c.args.plan.now x code else list_among c.args.before.now x code) (sym (c.is_some.ensures ∙ ap is_some c.rank.ensures.rank) ∙ c.if-is_some.true))

pub returns : goal.returns
returns g c =
    let x = c.args.exchange in
    let code = c.args.code in
    c.in-Ok.ensures.0 ∙ c.list.ensures.value ∙ sym (ap (λ b. if b then route_list c.args.plan.now x code else list_among c.args.before.now x code) (sym (c.is_some.ensures ∙ ap is_some c.rank.ensures.rank) ∙ c.if-is_some.false))
