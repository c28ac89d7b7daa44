use Rattle.tx_engine.proofs.Common.{ap, ◌∙◌, first_free, Net, calls_in}
use Rattle.tx_engine.proofs.Deciding.{first_is}
use Rattle.tx_engine.proofs.engine.EngineFacts.first_free.Goals as goal

pub returns : goal.returns
returns g c =
    let n = c.self.inside.inner in
    c.first_free.ensures.value
    ∙ first_is n.plan.now (calls_in n.calls) n.lines n.circuits n.numbers n.events n.tickets.items c.self.invariant.together c.args.exchange c.args.group
    ∙ ap (λ (v : Net). first_free v.plan v.state c.args.exchange c.args.group) c.self.view_is
