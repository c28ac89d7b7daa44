use Rattle.tx_risk.proofs.Common.{◌≡◌, ◌<◌, ◌≤◌, length, sym, ap, ◌∙◌, arith, group_name, group_named}
use Rattle.tx_plan.specs.Plan.{exchange_name, exchange_named}
use Rattle.tx_risk.specs.Compared.{Side, place_in}
use Rattle.tx_risk.proofs.Places.{named_place, no_named_place, place_of_group, place_of_exchange}
use Rattle.tx_risk.proofs.side.Side.place.Goals as goal

pub returns-in-Named : goal.returns-in-Named
returns-in-Named g c =
    let p = c.args.self.now.plan in let q = c.args.network.now in let risks = c.args.risks.now in
    let low : c.in-Named.index < length risks = omega (arith, c.if-index-named.true, c.len-named.ensures.count) in
    sym (named_place p risks c.in-Named.index low) ∙ ap (place_in q p risks) (sym c.in-Named.is)

pub returns-in-Named-2 : goal.returns-in-Named-2
returns-in-Named-2 g c =
    let p = c.args.self.now.plan in let q = c.args.network.now in let risks = c.args.risks.now in
    let high : length risks ≤ c.in-Named.index = omega (arith, c.if-index-named.false, c.len-named.ensures.count) in
    sym (no_named_place p risks c.in-Named.index high) ∙ ap (place_in q p risks) (sym c.in-Named.is)

pub returns-in_ok-group-in-Group : goal.returns-in_ok-group-in-Group
returns-in_ok-group-in-Group g c =
    let p = c.args.self.now.plan in let q = c.args.network.now in let risks = c.args.risks.now in
    let at : c.self.inside.plan.now ≡ p = ap (λ (s : Side g.row.A.Denot). s.plan) c.self.view_is in
    let named = ap (λ r. group_named r (group_name q c.in-Group.group)) (sym at)
    ∙ ap (group_named c.self.inside.plan.now) (sym c.group_name.ensures.value)
    ∙ sym c.group_named.ensures ∙ c.in_ok-group-in-Group.was in
    place_of_group p risks q c.in-Group.group _ _ named (omega (arith, c.len-named.ensures.count, c.index.ensures))
    ∙ ap (place_in q p risks) (sym c.in-Group.is)

pub returns-in_ok-exchange-in-Exchange : goal.returns-in_ok-exchange-in-Exchange
returns-in_ok-exchange-in-Exchange g c =
    let p = c.args.self.now.plan in let q = c.args.network.now in let risks = c.args.risks.now in
    let at : c.self.inside.plan.now ≡ p = ap (λ (s : Side g.row.A.Denot). s.plan) c.self.view_is in
    let named = ap (λ r. exchange_named r (exchange_name q c.in-Exchange.exchange)) (sym at)
    ∙ ap (exchange_named c.self.inside.plan.now) (sym c.exchange_name.ensures.value)
    ∙ sym c.exchange_named.ensures ∙ c.in_ok-exchange-in-Exchange.was in
    place_of_exchange p risks q c.in-Exchange.exchange _ _ named
    (omega (arith, c.len-named.ensures.count, c.groups.ensures.count, ap (λ r. length r.groups) at, c.index-in-Exchange.ensures))
    ∙ ap (place_in q p risks) (sym c.in-Exchange.is)
