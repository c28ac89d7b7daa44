use Rattle.tx_plan.proofs.Common.{◌∙◌, ap, map, ℕ, [], Some, None, slice_get, option_map_or, Plan, Group, group_name, group_of_row}
use Rattle.tx_plan.proofs.Tables.{value_at}
use Rattle.tx_plan.proofs.plan.Plan.group_name.Goals as goal

pub returns-in-Some-clause-value : goal.returns-in-Some-clause-value
returns-in-Some-clause-value g c =
    let es = c.self.inside.groups.entries in
    c.bytes.ensures.value ∙ value_at group_of_row (λ (r : Group). r.name) [] es c.index.result (Some (c.in-Some.name.now, c.in-Some.field-0-1.now)) c.in-Some.ensures.entry
    ∙ ap (λ (i : ℕ). option_map_or (λ (r : Group). r.name) (slice_get (map group_of_row es) i) []) c.index.ensures ∙ ap (λ (p : Plan). group_name p c.args.group) c.self.view_is

pub returns-in-None-clause-value : goal.returns-in-None-clause-value
returns-in-None-clause-value g c =
    let es = c.self.inside.groups.entries in
    value_at group_of_row (λ (r : Group). r.name) [] es c.index.result None c.in-None.ensures.entry
    ∙ ap (λ (i : ℕ). option_map_or (λ (r : Group). r.name) (slice_get (map group_of_row es) i) []) c.index.ensures ∙ ap (λ (p : Plan). group_name p c.args.group) c.self.view_is
