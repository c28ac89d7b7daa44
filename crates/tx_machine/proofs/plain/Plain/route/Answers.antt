use Rattle.tx_machine.proofs.Common.{◌≡◌, sym, ap, ◌∙◌, Reply, Seized, State, carried_out}
use Rattle.tx_machine.specs.declared.open_call.Phase.TheVariants.{Calling}
use Rattle.tx_machine.proofs.Choosing.{seized_circuit}
use Rattle.tx_machine.proofs.plain.Plain.route.Goals as goal

pub to_phase-requires-in-Seize : goal.to_phase-requires-in-Seize
to_phase-requires-in-Seize g c = λ x e.
    let v = c.args.self.now in
    let told = ap (λ (z : Reply × State). z.0) (c.decision_of-decision.ensures ∙ ap (carried_out v.plan v.state c.args.number) c.in-Seize.is) in
    let same : c.in-Seize.circuit ≡ x = cc in
    seized_circuit v.plan v.state c.args.number x (told ∙ ap Seized same)
