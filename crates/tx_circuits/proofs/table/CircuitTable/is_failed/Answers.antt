use Rattle.tx_circuits.proofs.Common.{◌∙◌, false, sym, ap, slice_get, option_map_or}
use Rattle.tx_circuits.proofs.Steps.{failed_is_marked, head_read}
use Rattle.tx_circuits.proofs.table.CircuitTable.is_failed.Goals as goal

pub returns-in-Some : goal.returns-in-Some
returns-in-Some g c = (let ts = c.self.inside.groups in sym (failed_is_marked ts c.args.self.now c.self.view_is c.args.group ∙ head_read (λ t. t.failed) (slice_get ts c.args.group) ∙ ap (λ o. option_map_or (λ t. t.failed) o false) (sym c.in-Some.ensures)))

pub returns-in-None : goal.returns-in-None
returns-in-None g c = (let ts = c.self.inside.groups in sym (failed_is_marked ts c.args.self.now c.self.view_is c.args.group ∙ head_read (λ t. t.failed) (slice_get ts c.args.group) ∙ ap (λ o. option_map_or (λ t. t.failed) o false) (sym c.in-None.ensures)))
