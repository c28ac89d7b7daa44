use Rattle.tx_fill.proofs.Common.{◌∙◌, map, ap, sym, Ended, state_after, release_of, releases}
use Rattle.tx_fill.proofs.filling.settle.Goals as goal

pub returns-clause-state : goal.returns-clause-state
returns-clause-state g c =
    let path = c.as_slice-hops.ensures.value ∙ ap (λ (t : Ended). t.path) c.ticket.view_is in
    c.in_ok-release.ensures.state
    ∙ ap (state_after c.args.network.now.plan c.args.network.now.state)
    (ap (map release_of) path ∙ ap releases (sym c.in-Some.is))
