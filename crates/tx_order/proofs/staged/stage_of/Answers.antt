use Rattle.tx_order.proofs.Staging.{stage_cert, stage_rules, stage_plan}
use Rattle.tx_order.proofs.staged.stage_of.Goals as goal

pub with_lists-plan-requires : goal.with_lists-plan-requires
with_lists-plan-requires g c =
    stage_rules c.args.order c.rules.ensures.kept c.args.stage c.in_ok-lists.lists
    (rw c.from-stage.ensures at c.in_ok-lists.ensures)

pub returns-clause-plan : goal.returns-clause-plan
returns-clause-plan g c =
    stage_plan c.args.order c.args.stage c.in_ok-lists.lists c.with_lists-plan.result.0 c.with_lists-plan.ensures.plan
    (rw c.from-stage.ensures at c.in_ok-lists.ensures)

pub returns-clause-cert : goal.returns-clause-cert
returns-clause-cert g c =
    stage_cert c.args.order c.rules.ensures.kept c.args.stage c.in_ok-cert.cert
    (rw (c.saturating_sub.ensures, c.from-stage.ensures) at c.in_ok-cert.ensures.common)
    c.in_ok-cert.ensures.fits
