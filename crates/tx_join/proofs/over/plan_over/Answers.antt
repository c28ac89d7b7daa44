use Rattle.tx_join.proofs.Common.{List, ◌∙◌, sym, subst, Pair, Route, IsPlan, rerouted, bars_over}
use Rattle.tx_join.proofs.over.plan_over.Goals as goal

pub lists_over-requires : goal.lists_over-requires
lists_over-requires g c = record { routes = c.requires.routes_differ; bars = c.requires.bars_differ }

pub rerouted-requires : goal.rerouted-requires
rerouted-requires g c =
    subst (λ (bars : List Pair). IsPlan (rerouted c.args.network c.in-Ok.routes bars)) (sym c.in-Ok.ensures.bars)
    (subst (λ (routes : List Route). IsPlan (rerouted c.args.network routes (bars_over c.args.network c.args.own.now c.args.other.now c.args.codes))) (sym c.in-Ok.ensures.routes) c.requires)

pub returns-in-Ok : goal.returns-in-Ok
returns-in-Ok g c = c.rerouted.ensures ∙ (λ j. rerouted c.args.network (c.in-Ok.ensures.routes j) (c.in-Ok.ensures.bars j))
