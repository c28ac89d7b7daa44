use Rattle.tx_order.proofs.judging.judge_new.Goals as goal

pub returns-in-Ok : goal.returns-in-Ok
returns-in-Ok g c = λ before after h.
    c.verdict_of.ensures before after c.args.new.now c.args.limits.limit c.args.limits.spare h c.in-Ok.ensures
