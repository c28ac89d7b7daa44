use Rattle.tx_plan.proofs.Common.{◌∙◌, sym, ◌&&◌, Some, None, if◌then◌else◌, is_national}
use Rattle.tx_plan.proofs.Refusing.{read_right}
use Rattle.tx_plan.proofs.plan.Plan.line_at.Goals as goal

pub returns-else-is_in_range : goal.returns-else-is_in_range
returns-else-is_in_range g c =
    let number = c.args.national.now in
    let formed = read_right (is_national number) number c.in_ok-read.field-0 c.in_ok-read.ensures in
    let within = sym c.is_in_range.ensures ∙ c.if-is_in_range.false in
    sym (λ i. if formed i && within i then Some (record { code = c.args.code; national = number }) else None)
