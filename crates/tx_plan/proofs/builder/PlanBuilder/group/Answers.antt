use Rattle.tx_plan.proofs.Common.{ℕ, List, [], ◌∷◌, ◌++◌, map, refl, ap, ap₂, sym, subst, ◌∙◌, bytes_eq, map_push, GroupRow, Plan, Group, IsPlan, first_true, group_refusals, has_group, with_group, plan_of, group_of_row}
use Rattle.tx_plan.proofs.Lookups.{entry_last}
use Rattle.tx_plan.proofs.Made.{inserted_entry, no_group_key, made_group}
use Rattle.tx_plan.proofs.builder.PlanBuilder.group.Goals as goal

pub invariant_of-plan : goal.invariant_of-plan
invariant_of-plan g c =
    let p : Plan = plan_of c.plan.inside.exchanges.keys c.plan.inside.codes.entries c.plan.inside.ranges.items c.plan.inside.groups.entries c.plan.inside.routes c.plan.inside.bars in
    let es : List (List ℕ × GroupRow) = c.plan.inside.groups.entries in
    let k : List ℕ = c.in_ok-key.key in
    let e : List ℕ × GroupRow = (k, c.in_ok-key.row) in
    let key = ap (λ (x : List ℕ × GroupRow). x.0) c.in_ok-key.ensures.entry in
    let absent = no_group_key k es (ap (λ (q : Plan). has_group q k) c.plan.view_is ∙ ap (has_group c.self.inside.plan) key ∙ c.in_ok-key.ensures.fresh) in
    inserted_entry c.insert.result (λ (l : List (List ℕ × GroupRow)). IsPlan (record p { groups = map group_of_row l })) c.plan.inside.groups c.insert.new.self.entries k e.1 c.insert.ensures.entries c.insert.ensures.err absent c.plan.invariant
    (subst (λ (l : List Group). IsPlan (record p { groups = l })) (sym (map_push group_of_row es e)) (made_group p _ c.plan.view_is c.plan.invariant c.args.name.now c.args.a.now c.args.b.now c.args.direction c.args.count e c.in_ok-key.ensures.ok c.in_ok-key.ensures.entry))

pub returns : goal.returns
returns g c =
    let p : Plan = plan_of c.plan.inside.exchanges.keys c.plan.inside.codes.entries c.plan.inside.ranges.items c.plan.inside.groups.entries c.plan.inside.routes c.plan.inside.bars in
    let es : List (List ℕ × GroupRow) = c.plan.inside.groups.entries in
    let k : List ℕ = c.in_ok-key.key in
    let e : List ℕ × GroupRow = (k, c.in_ok-key.row) in
    let key = ap (λ (x : List ℕ × GroupRow). x.0) c.in_ok-key.ensures.entry in
    let absent = no_group_key k es (ap (λ (q : Plan). has_group q k) c.plan.view_is ∙ ap (has_group c.self.inside.plan) key ∙ c.in_ok-key.ensures.fresh) in (
      ap (λ (q : Plan). first_true (group_refusals q c.args.name.now c.args.a.now c.args.b.now c.args.count)) (sym c.self.view_is) ∙ c.in_ok-key.ensures.ok,
      ap (λ (l : List (List ℕ × GroupRow)). record p { groups = map group_of_row l }) (c.in_ok-insert.ensures.entries ∙ entry_last bytes_eq c.plan.inside.groups es k e.1 refl absent)
          ∙ ap (λ (l : List Group). record p { groups = l }) (map_push group_of_row es e)
          ∙ ap₂ (λ (q : Plan) (x : List ℕ × GroupRow). record q { groups = q.groups ++ group_of_row x ∷ [] }) c.plan.view_is c.in_ok-key.ensures.entry
          ∙ ap (λ (q : Plan). with_group q c.args.name.now c.args.a.now c.args.b.now c.args.direction c.args.count) c.self.view_is,
    )
