use Rattle.tx_change.proofs.Common.{◌∙◌, sym, ap, option_map}
use Rattle.tx_change.proofs.MixtureEvents.{walked_shown}
use Rattle.tx_change.proofs.mixture.first_mixture.Goals as goal

pub show_mixture-requires-clause-shown : goal.show_mixture-requires-clause-shown
show_mixture-requires-clause-shown g c =
    walked_shown c.args.old c.args.new.now c.args.limits.limit c.args.limits.spare c.args.findings.now c.in-Some.finding.now c.requires.shown (sym c.first_walked.ensures ∙ ap (option_map (λ f. f.now)) c.in-Some.is)

pub returns-in_ok-mixture-in-Some : goal.returns-in_ok-mixture-in-Some
returns-in_ok-mixture-in-Some g c = (c.in-Some.finding.now, sym c.first_walked.ensures ∙ ap (option_map (λ f. f.now)) c.in-Some.is, c.in_ok-mixture-in-Some.ensures)

pub returns-in-None : goal.returns-in-None
returns-in-None g c = sym c.first_walked.ensures ∙ ap (option_map (λ f. f.now)) c.in-None.is
