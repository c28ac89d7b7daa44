use Rattle.tx_machine.proofs.Common.{◌≡◌, ◌∙◌, true, false, is_some, ap, sym, subst, among_at, Among, may_seize, Plan, route_list, first_in, first_free}
use Rattle.tx_machine.proofs.Steps.{listed_may}
use Rattle.tx_machine.proofs.Routed.{first_here, first_past, first_none}
use Rattle.tx_machine.proofs.deciding.choice.Goals as goal

pub first_free-circuit-requires : goal.first_free-circuit-requires
first_free-circuit-requires g c =
    let x = c.group-item.result in
    let there = subst (λ gs. Among x gs) c.list-groups.ensures.value (among_at c.list-groups.result.now c.loop-group.group-index x c.loop-group-test.true c.group-item.is) in
    subst (λ (p : Plan). may_seize p x c.args.here ≡ true) c.plan-plan.ensures (listed_may c.plan-plan.result.now c.list-groups.ensures.rules c.args.here c.args.code x there)

pub loop-group-preserved : goal.loop-group-preserved
loop-group-preserved g c =
    let look = first_free (g.N.Facts.plan c.args.network.now) (g.N.Facts.state c.args.network.now) c.args.here in
    let none : is_some (look c.group-item.result) ≡ false = ap is_some (sym c.first_free-circuit.ensures) ∙ sym c.is_some.ensures ∙ c.if-is_some.false in
    c.loop-group.invariant ∙ first_past look c.list-groups.result.now c.loop-group.group-index c.group-item.result c.loop-group-test.true c.group-item.is none

pub returns-then-is_some : goal.returns-then-is_some
returns-then-is_some g c =
    let look = first_free (g.N.Facts.plan c.args.network.now) (g.N.Facts.state c.args.network.now) c.args.here in
    let some : is_some (look c.group-item.result) ≡ true = ap is_some (sym c.first_free-circuit.ensures) ∙ sym c.is_some.ensures ∙ c.if-is_some.true in
    c.first_free-circuit.ensures
    ∙ sym (c.loop-group.invariant ∙ first_here look c.list-groups.result.now c.loop-group.group-index c.group-item.result c.loop-group-test.true c.group-item.is some)
    ∙ ap (first_in look) (c.list-groups.ensures.value ∙ ap (λ (p : Plan). route_list p c.args.here c.args.code) c.plan-plan.ensures)

pub returns : goal.returns
returns g c =
    let look = first_free (g.N.Facts.plan c.args.network.now) (g.N.Facts.state c.args.network.now) c.args.here in
    sym (c.loop-group.invariant ∙ first_none look c.list-groups.result.now c.loop-group.group-index c.loop-group-test.false)
    ∙ ap (first_in look) (c.list-groups.ensures.value ∙ ap (λ (p : Plan). route_list p c.args.here c.args.code) c.plan-plan.ensures)
