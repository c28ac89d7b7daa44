use Rattle.tx_page_change.proofs.Common.{ap, ◌∙◌}
use Rattle.tx_html.proofs.Showing.{sets_then, sets_end}
use Rattle.tx_plan.specs.Plan.{Plan, exchange_name}
use Rattle.tx_page_change.proofs.crews.write_crew.Goals as goal

pub returns : goal.returns
returns g c =
    let name = c.exchange_name-name.ensures.value ∙ ap (λ (p : Plan). exchange_name p c.args.exchange) c.plans.ensures.new in
    sets_then c.set.ensures (sets_then (rw name at c.write_named_work.ensures)
    (sets_then c.write_switched.ensures
    (sets_end (rw name at c.write_named_work-2.ensures) c.set-2.ensures)))
