use Rattle.tx_plan.proofs.Common.{ℕ, List, [], ◌∷◌, ◌++◌, map, refl, ap, ap₂, sym, subst, ◌∙◌, bytes_eq, map_push, Plan, Code, IsPlan, first_true, code_refusals, has_code, with_code, plan_of, code_of_row}
use Rattle.tx_plan.proofs.Lookups.{entry_last}
use Rattle.tx_plan.proofs.Made.{inserted_entry, no_code_key, made_code}
use Rattle.tx_plan.proofs.builder.PlanBuilder.code.Goals as goal

pub invariant_of-plan : goal.invariant_of-plan
invariant_of-plan g c =
    let p : Plan = plan_of c.plan.inside.exchanges.keys c.plan.inside.codes.entries c.plan.inside.ranges.items c.plan.inside.groups.entries c.plan.inside.routes c.plan.inside.bars in
    let es : List (List ℕ × ℕ) = c.plan.inside.codes.entries in
    let k : List ℕ = c.in_ok-figures.figures in
    let e : List ℕ × ℕ = (k, c.in_ok-figures.home) in
    let key = ap (λ (x : List ℕ × ℕ). x.0) c.in_ok-figures.ensures.entry in
    let absent = no_code_key k es (ap (λ (q : Plan). has_code q k) c.plan.view_is ∙ ap (has_code c.self.inside.plan) key ∙ c.in_ok-figures.ensures.fresh) in
    inserted_entry c.insert.result (λ (l : List (List ℕ × ℕ)). IsPlan (record p { codes = map code_of_row l })) c.plan.inside.codes c.insert.new.self.entries k e.1 c.insert.ensures.entries c.insert.ensures.err absent c.plan.invariant
    (subst (λ (l : List Code). IsPlan (record p { codes = l })) (sym (map_push code_of_row es e)) (made_code p _ c.plan.view_is c.plan.invariant c.args.code.now c.args.home.now e c.in_ok-figures.ensures.ok c.in_ok-figures.ensures.entry))

pub returns : goal.returns
returns g c =
    let p : Plan = plan_of c.plan.inside.exchanges.keys c.plan.inside.codes.entries c.plan.inside.ranges.items c.plan.inside.groups.entries c.plan.inside.routes c.plan.inside.bars in
    let es : List (List ℕ × ℕ) = c.plan.inside.codes.entries in
    let k : List ℕ = c.in_ok-figures.figures in
    let e : List ℕ × ℕ = (k, c.in_ok-figures.home) in
    let key = ap (λ (x : List ℕ × ℕ). x.0) c.in_ok-figures.ensures.entry in
    let absent = no_code_key k es (ap (λ (q : Plan). has_code q k) c.plan.view_is ∙ ap (has_code c.self.inside.plan) key ∙ c.in_ok-figures.ensures.fresh) in (
      ap (λ (q : Plan). first_true (code_refusals q c.args.code.now c.args.home.now)) (sym c.self.view_is) ∙ c.in_ok-figures.ensures.ok,
      ap (λ (l : List (List ℕ × ℕ)). record p { codes = map code_of_row l }) (c.in_ok-insert.ensures.entries ∙ entry_last bytes_eq c.plan.inside.codes es k e.1 refl absent)
          ∙ ap (λ (l : List Code). record p { codes = l }) (map_push code_of_row es e)
          ∙ ap₂ (λ (q : Plan) (x : List ℕ × ℕ). record q { codes = q.codes ++ code_of_row x ∷ [] }) c.plan.view_is c.in_ok-figures.ensures.entry
          ∙ ap (λ (q : Plan). with_code q c.args.code.now c.args.home.now) c.self.view_is,
    )
