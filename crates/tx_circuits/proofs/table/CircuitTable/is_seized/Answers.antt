use Rattle.tx_circuits.proofs.Common.{◌∙◌, false, sym, ap, option_map_or, has_seized, holds}
use Rattle.tx_circuits.proofs.Steps.{seized_sits}
use Rattle.tx_circuits.proofs.table.CircuitTable.is_seized.Goals as goal

pub returns-in-Some : goal.returns-in-Some
returns-in-Some g c =
    let ts = c.self.inside.groups in
    c.has_seized.ensures ∙ ap (λ o. option_map_or (λ end. holds (has_seized end) ts c.args.circuit.now) o false) c.in-Some.ensures
    ∙ sym (seized_sits ts c.args.self.now c.self.view_is c.args.circuit.now c.args.exchange)

pub returns-in-None : goal.returns-in-None
returns-in-None g c =
    let ts = c.self.inside.groups in
    ap (λ o. option_map_or (λ end. holds (has_seized end) ts c.args.circuit.now) o false) c.in-None.ensures ∙ sym (seized_sits ts c.args.self.now c.self.view_is c.args.circuit.now c.args.exchange)
