use Rattle.tx_plan.proofs.Common.{◌∙◌, ap, map, List, ℕ, slice_get, option_map, Plan, group_of_row, row_of}
use Rattle.tx_plan.proofs.Tables.{row_at}
use Rattle.tx_plan.proofs.plan.Plan.row.Goals as goal

pub returns-clause-value : goal.returns-clause-value
returns-clause-value g c =
    let es = c.self.inside.groups.entries in
    row_at es c.index.result (c.in_ok-row.field-0-0.now, c.in_ok-row.row.now) c.in_ok-row.ensures.entry
    ∙ ap (λ (i : ℕ). option_map row_of (slice_get (map group_of_row es) i)) c.index.ensures ∙ ap (λ (p : Plan). option_map row_of (slice_get p.groups c.args.group)) c.self.view_is
