use Rattle.tx_change.proofs.MixtureEvents.{true_there, shows_mixture}
use Rattle.tx_change.proofs.mixture.show_mixture.Goals as goal

pub counter-requires : goal.counter-requires
counter-requires g c =
    true_there c.args.old c.args.new.now c.args.limits.limit c.args.limits.spare c.args.finding.now c.in_ok-plan.plan c.in_ok-plan.ensures c.requires.shown

pub returns : goal.returns
returns g c =
    let e = c.in_ok-events.ensures in
    shows_mixture c.args.old c.args.new.now c.args.limits.limit c.args.limits.spare (λ v. v.items) c.args.finding.now c.in_ok-plan.plan c.in_ok-events.events c.in_ok-plan.ensures c.requires.shown e.events e.which e.shows e.writable
