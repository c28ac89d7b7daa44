use Rattle.tx_circuits.proofs.Common.{◌∙◌, false, sym, ap, option_map_or}
use Rattle.tx_circuits.proofs.Steps.{out_holds}
use Rattle.tx_circuits.proofs.table.CircuitTable.is_out.Goals as goal

pub returns-in-Some : goal.returns-in-Some
returns-in-Some g c = (let ts = c.self.inside.groups in sym (out_holds ts c.args.self.now c.self.view_is c.args.circuit.now ∙ ap (λ o. option_map_or (λ s. s.out) o false) (sym c.in-Some.ensures)))

pub returns-in-None : goal.returns-in-None
returns-in-None g c = (let ts = c.self.inside.groups in sym (out_holds ts c.args.self.now c.self.view_is c.args.circuit.now ∙ ap (λ o. option_map_or (λ s. s.out) o false) (sym c.in-None.ensures)))
