use Rattle.tx_plan.proofs.Common.{◌∙◌, ap, sym, map, Some, ℕ, List, position, keys_of, bytes_eq, Plan, Code, code_named, is_code, IsCode, plan_of, code_of_row}
use Rattle.tx_plan.proofs.Absent.{unnamed, too_long, short_code}
use Rattle.tx_plan.proofs.Tables.{position-map}
use Rattle.tx_plan.proofs.plan.Plan.code_named.Goals as goal

pub returns-then-figures-gt3 : goal.returns-then-figures-gt3
returns-then-figures-gt3 g c =
    let p : Plan = plan_of c.self.inside.exchanges.keys c.self.inside.codes.entries c.self.inside.ranges.items c.self.inside.groups.entries c.self.inside.routes c.self.inside.bars in
    sym (unnamed is_code (λ (r : Code). r.figures) (IsCode p) c.args.figures.now p.codes (λ x h. h.figures) (too_long is_code 3 short_code c.args.figures.now c.if-figures-gt3.true) c.self.invariant.codes)
    ∙ ap (λ (p : Plan). code_named p c.args.figures.now) c.self.view_is

pub returns-in_err-index : goal.returns-in_err-index
returns-in_err-index g c =
    let es = c.self.inside.codes.entries in
    c.from_residual.ensures ∙ c.in_err-index.ensures.index ∙ ap (λ (w : List ℕ). position (bytes_eq w) (keys_of es)) c.new.ensures ∙ position-map (bytes_eq c.args.figures.now) (λ e. e.0) es
    ∙ sym (position-map (λ (r : Code). bytes_eq c.args.figures.now r.figures) code_of_row es) ∙ ap (λ (p : Plan). code_named p c.args.figures.now) c.self.view_is

pub returns : goal.returns
returns g c =
    let es = c.self.inside.codes.entries in
    ap Some c.of.ensures ∙ c.in_ok-index.ensures.index ∙ ap (λ (w : List ℕ). position (bytes_eq w) (keys_of es)) c.new.ensures ∙ position-map (bytes_eq c.args.figures.now) (λ e. e.0) es
    ∙ sym (position-map (λ (r : Code). bytes_eq c.args.figures.now r.figures) code_of_row es) ∙ ap (λ (p : Plan). code_named p c.args.figures.now) c.self.view_is
