use Rattle.tx_machine.proofs.Common.{◌≡◌, sym, ap, ◌∙◌, arith, rules, Reply, State, Net}
use Rattle.tx_machine.proofs.Unrefused.{can_count, not_counted}
use Rattle.tx_machine.proofs.plain.PlainNetwork.apply.Goals as goal

pub overflow_add-self : goal.overflow_add-self
overflow_add-self g c =
    let v = c.args.self.now in
    let few = can_count v.plan v.state c.args.event (sym c.refusal_of.ensures ∙ c.in-None.is) in
    let same : c.accept.new.self.state.events ≡ v.state.events = ap (λ (z : Reply × State). z.1.events) (sym c.in_ok-reply-in-None.ensures.ok) ∙ not_counted v.plan v.state c.args.event in
    let now : c.self.inside.events ≡ c.accept.new.self.state.events = ap (λ (n : Net). n.state.events) c.self.view_is in
    omega arith

pub returns-in-Some-clause-step : goal.returns-in-Some-clause-step
returns-in-Some-clause-step g c = search rules
