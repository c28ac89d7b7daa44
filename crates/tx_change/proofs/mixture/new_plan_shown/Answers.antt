use Rattle.tx_change.proofs.Common.{◌∙◌, sym, ap, option_map}
use Rattle.tx_change.proofs.MixtureEvents.{walked_true, shows_new}
use Rattle.tx_change.proofs.mixture.new_plan_shown.Goals as goal

pub counter-requires : goal.counter-requires
counter-requires g c =
    walked_true c.args.new c.args.limits.limit c.args.limits.spare c.args.findings.now c.in-Some.finding.now c.requires (sym c.first_walked.ensures ∙ ap (option_map (λ f. f.now)) c.in-Some.is)

pub returns-in_ok-events-in-Some : goal.returns-in_ok-events-in-Some
returns-in_ok-events-in-Some g c =
    let e = c.in_ok-events-in-Some.ensures in
    shows_new c.args.new c.args.limits.limit c.args.limits.spare (λ v. v.items) c.args.findings.now c.in-Some.finding.now c.in_ok-events-in-Some.events (sym c.first_walked.ensures ∙ ap (option_map (λ f. f.now)) c.in-Some.is) e.events e.which e.shows e.writable

pub returns-in-None : goal.returns-in-None
returns-in-None g c = sym c.first_walked.ensures ∙ ap (option_map (λ f. f.now)) c.in-None.is
