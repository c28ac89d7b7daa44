use Rattle.tx_plan.proofs.Common.{◌∙◌, ap, sym, map, Some, ℕ, List, position, keys_of, bytes_eq, is_name, Plan, Group, group_named, IsGroup, plan_of, group_of_row}
use Rattle.tx_plan.proofs.Absent.{unnamed, too_long, short_name}
use Rattle.tx_plan.proofs.Tables.{position-map}
use Rattle.tx_plan.proofs.plan.Plan.group_named.Goals as goal

pub returns-then-name-gt8 : goal.returns-then-name-gt8
returns-then-name-gt8 g c =
    let p : Plan = plan_of c.self.inside.exchanges.keys c.self.inside.codes.entries c.self.inside.ranges.items c.self.inside.groups.entries c.self.inside.routes c.self.inside.bars in
    sym (unnamed is_name (λ (r : Group). r.name) (IsGroup p) c.args.name.now p.groups (λ x h. h.name) (too_long is_name 8 short_name c.args.name.now c.if-name-gt8.true) c.self.invariant.groups)
    ∙ ap (λ (p : Plan). group_named p c.args.name.now) c.self.view_is

pub returns-in_err-index : goal.returns-in_err-index
returns-in_err-index g c =
    let es = c.self.inside.groups.entries in
    c.from_residual.ensures ∙ c.in_err-index.ensures.index ∙ ap (λ (w : List ℕ). position (bytes_eq w) (keys_of es)) c.new.ensures ∙ position-map (bytes_eq c.args.name.now) (λ e. e.0) es
    ∙ sym (position-map (λ (r : Group). bytes_eq c.args.name.now r.name) group_of_row es) ∙ ap (λ (p : Plan). group_named p c.args.name.now) c.self.view_is

pub returns : goal.returns
returns g c =
    let es = c.self.inside.groups.entries in
    ap Some c.of.ensures ∙ c.in_ok-index.ensures.index ∙ ap (λ (w : List ℕ). position (bytes_eq w) (keys_of es)) c.new.ensures ∙ position-map (bytes_eq c.args.name.now) (λ e. e.0) es
    ∙ sym (position-map (λ (r : Group). bytes_eq c.args.name.now r.name) group_of_row es) ∙ ap (λ (p : Plan). group_named p c.args.name.now) c.self.view_is
