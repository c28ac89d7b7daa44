use Rattle.tx_risk.proofs.Common.{sym, ap, ◌∙◌, ends_of, marked}
use Rattle.tx_risk.proofs.Unhit.{ends_skip, ends_more}
use Rattle.tx_risk.proofs.hits.add_ends.Goals as goal

pub returns-then-not-is_marked : goal.returns-then-not-is_marked
returns-then-not-is_marked g c = λ before.
    ends_skip c.args.plan.now (marked c.args.gone.now) c.args.index c.args.ends.now.items before
    (sym (ap (marked c.args.gone.now) c.of-group.ensures) ∙ sym c.is_marked.ensures
    ∙ c.if-not-is_marked.true)

pub returns : goal.returns
returns g c = λ before.
    let one = c.in_ok-add_end.ensures in
    let two = c.in_ok-add_end-2.ensures in
    ends_more c.args.plan.now (marked c.args.gone.now) c.args.index c.args.ends.now.items
    c.add_end-2.new.ends.items c.ends-both.result before
    (c.ends-both.ensures ∙ ap (ends_of c.args.plan.now) c.of-group.ensures)
    (λ x m. two.stays x (one.stays x m)) (two.stays c.ends-both.result.0 one.added) two.added
