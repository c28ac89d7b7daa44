use Rattle.tx_engine.proofs.Common.{◌<◌, ◌-◌, ◌^◌, sym, ap, subst, ◌∙◌, if◌then◌else◌, Nc, ended_if, state_of}
use Rattle.std.proofs.lemmas.Bool.{lt-ltb, le-ltb}
use Rattle.tx_machine.specs.declared.cause.Cause.TheVariants.{Service as ByService}
use Rattle.tx_engine.proofs.engine.EngineState.end_collided.Goals as goal

pub end_if_collided-requires-then-one-other-clause-events : goal.end_if_collided-requires-then-one-other-clause-events
end_if_collided-requires-then-one-other-clause-events g c = subst (λ e. e < 2 ^ 64 - 1) (sym c.end_if_collided.ensures.events) c.requires.events

pub end_if_collided-requires-then-one-other-clause-met : goal.end_if_collided-requires-then-one-other-clause-met
end_if_collided-requires-then-one-other-clause-met g c = (c.requires.other.0, c.end_if_collided.ensures.others c.args.other.now.key c.requires.differ ∙ c.requires.other.1, c.requires.other.2)

pub end_if_collided-requires-else-one-other-2-clause-events : goal.end_if_collided-requires-else-one-other-2-clause-events
end_if_collided-requires-else-one-other-2-clause-events g c = subst (λ e. e < 2 ^ 64 - 1) (sym c.end_if_collided-else-one-other.ensures.events) c.requires.events

pub end_if_collided-requires-else-one-other-2-clause-met : goal.end_if_collided-requires-else-one-other-2-clause-met
end_if_collided-requires-else-one-other-2-clause-met g c = (c.requires.one.0, c.end_if_collided-else-one-other.ensures.others c.args.one.now.key (λ e. c.requires.differ (sym e)) ∙ c.requires.one.1, c.requires.one.2)

pub returns-then-one-other-clause-state : goal.returns-then-one-other-clause-state
returns-then-one-other-clause-state g c =
    let p = c.args.self.now.plan.now in
    let s = state_of c.args.self.now in
    let a = c.args.one.now in
    let b = c.args.other.now in
    let first = c.end_if_collided.ensures in
    c.end_if_collided-then-one-other.ensures.state
    ∙ (λ i. ended_if (first.plan i) (ByService Nc) b.collided b.number (first.state i))
    ∙ ap (λ z. if z then ended_if p (ByService Nc) b.collided b.number (ended_if p (ByService Nc) a.collided a.number s) else ended_if p (ByService Nc) a.collided a.number (ended_if p (ByService Nc) b.collided b.number s)) (sym (lt-ltb a.number b.number c.if-one-other.true))

pub returns-else-one-other-clause-state : goal.returns-else-one-other-clause-state
returns-else-one-other-clause-state g c =
    let p = c.args.self.now.plan.now in
    let s = state_of c.args.self.now in
    let a = c.args.one.now in
    let b = c.args.other.now in
    let first = c.end_if_collided-else-one-other.ensures in
    c.end_if_collided-else-one-other-2.ensures.state
    ∙ (λ i. ended_if (first.plan i) (ByService Nc) a.collided a.number (first.state i))
    ∙ ap (λ z. if z then ended_if p (ByService Nc) b.collided b.number (ended_if p (ByService Nc) a.collided a.number s) else ended_if p (ByService Nc) a.collided a.number (ended_if p (ByService Nc) b.collided b.number s)) (sym (le-ltb a.number b.number c.if-one-other.false))
