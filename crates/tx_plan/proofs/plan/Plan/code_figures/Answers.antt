use Rattle.tx_plan.proofs.Common.{◌∙◌, ap, map, ℕ, [], Some, None, slice_get, option_map_or, Plan, Code, figures_of, code_of_row}
use Rattle.tx_plan.proofs.Tables.{value_at}
use Rattle.tx_plan.proofs.plan.Plan.code_figures.Goals as goal

pub returns-in-Some-clause-value : goal.returns-in-Some-clause-value
returns-in-Some-clause-value g c =
    let es = c.self.inside.codes.entries in
    c.bytes.ensures.value ∙ value_at code_of_row (λ (r : Code). r.figures) [] es c.index.result (Some (c.in-Some.figures.now, c.in-Some.field-0-1.now)) c.in-Some.ensures.entry
    ∙ ap (λ (i : ℕ). option_map_or (λ (r : Code). r.figures) (slice_get (map code_of_row es) i) []) c.index.ensures ∙ ap (λ (p : Plan). figures_of p c.args.code) c.self.view_is

pub returns-in-None-clause-value : goal.returns-in-None-clause-value
returns-in-None-clause-value g c =
    let es = c.self.inside.codes.entries in
    value_at code_of_row (λ (r : Code). r.figures) [] es c.index.result None c.in-None.ensures.entry
    ∙ ap (λ (i : ℕ). option_map_or (λ (r : Code). r.figures) (slice_get (map code_of_row es) i) []) c.index.ensures ∙ ap (λ (p : Plan). figures_of p c.args.code) c.self.view_is
