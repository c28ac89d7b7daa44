use Rattle.tx_plan.proofs.Common.{ℕ, List, [], ◌∷◌, ◌++◌, ap, ap₂, sym, ◌∙◌, if◌then◌else◌, Plan, IsPlan, first_true, exchange_refusals, has_exchange, with_exchange, plan_of}
use Rattle.tx_plan.proofs.Made.{inserted_key, made_exchange}
use Rattle.tx_plan.proofs.builder.PlanBuilder.exchange.Goals as goal

pub invariant_of-plan : goal.invariant_of-plan
invariant_of-plan g c =
    let p : Plan = plan_of c.plan.inside.exchanges.keys c.plan.inside.codes.entries c.plan.inside.ranges.items c.plan.inside.groups.entries c.plan.inside.routes c.plan.inside.bars in
    let e : List ℕ = c.in_ok-entry.entry in
    let absent = ap (λ (q : Plan). has_exchange q e) c.plan.view_is ∙ ap (has_exchange c.self.inside.plan) c.in_ok-entry.ensures.entry ∙ c.in_ok-entry.ensures.fresh in
    inserted_key c.insert.result (λ (l : List (List ℕ)). IsPlan (record p { exchanges = l })) p.exchanges c.insert.new.self.keys e c.insert.ensures.keys c.insert.ensures.err absent c.plan.invariant
    (made_exchange p _ c.plan.view_is c.plan.invariant c.args.name.now e c.in_ok-entry.ensures.ok c.in_ok-entry.ensures.entry)

pub returns : goal.returns
returns g c =
    let p : Plan = plan_of c.plan.inside.exchanges.keys c.plan.inside.codes.entries c.plan.inside.ranges.items c.plan.inside.groups.entries c.plan.inside.routes c.plan.inside.bars in
    let e : List ℕ = c.in_ok-entry.entry in
    let absent = ap (λ (q : Plan). has_exchange q e) c.plan.view_is ∙ ap (has_exchange c.self.inside.plan) c.in_ok-entry.ensures.entry ∙ c.in_ok-entry.ensures.fresh in (
      ap (λ (q : Plan). first_true (exchange_refusals q c.args.name.now)) (sym c.self.view_is) ∙ c.in_ok-entry.ensures.ok,
      ap (λ (l : List (List ℕ)). record p { exchanges = l }) (c.in_ok-insert.ensures.keys ∙ ap (λ b. if b then p.exchanges else p.exchanges ++ e ∷ []) absent)
          ∙ ap₂ (λ (q : Plan) (x : List ℕ). record q { exchanges = q.exchanges ++ x ∷ [] }) c.plan.view_is c.in_ok-entry.ensures.entry
          ∙ ap (λ (q : Plan). with_exchange q c.args.name.now) c.self.view_is,
    )
