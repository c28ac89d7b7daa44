use Rattle.tx_plan.proofs.Common.{◌∙◌, ap, map, ℕ, [], Some, None, slice_get, option_map_or, Plan, Code, home_of, code_of_row}
use Rattle.tx_plan.proofs.Tables.{value_at}
use Rattle.tx_plan.proofs.plan.Plan.home.Goals as goal

pub returns-in-Some : goal.returns-in-Some
returns-in-Some g c =
    let es = c.self.inside.codes.entries in
    value_at code_of_row (λ (r : Code). r.home) 0 es c.index.result (Some (c.in-Some.field-0-0.now, c.in-Some.home.now)) c.in-Some.ensures.entry
    ∙ ap (λ (i : ℕ). option_map_or (λ (r : Code). r.home) (slice_get (map code_of_row es) i) 0) c.index.ensures ∙ ap (λ (p : Plan). home_of p c.args.code) c.self.view_is

pub returns-in-None : goal.returns-in-None
returns-in-None g c =
    let es = c.self.inside.codes.entries in
    c.of.ensures ∙ value_at code_of_row (λ (r : Code). r.home) 0 es c.index.result None c.in-None.ensures.entry
    ∙ ap (λ (i : ℕ). option_map_or (λ (r : Code). r.home) (slice_get (map code_of_row es) i) 0) c.index.ensures ∙ ap (λ (p : Plan). home_of p c.args.code) c.self.view_is
