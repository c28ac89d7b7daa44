use Rattle.tx_machine.proofs.Common.{◌∙◌, ap, sym, not, HeadOn, Nc, Net, end_calls, ends_by}
use Rattle.tx_machine.specs.declared.cause.Cause.TheVariants.{Service as ByService}
use Rattle.tx_machine.specs.declared.plain.ended_calls.Ends.TheVariants.{Collided}
use Rattle.tx_machine.proofs.plain.Plain.clash.Goals as goal

pub returns-clause-step : goal.returns-clause-step
returns-clause-step g c =
    let ends = ends_by (Collided c.args.number c.args.collided c.args.other c.args.other_collided) in
    sym (ap (λ (v : Net). (HeadOn c.args.number c.args.other (not c.args.collided) (not c.args.other_collided), v.state))
    (c.end.ensures ∙ ap (λ (v : Net). record v { state = end_calls v.plan (ByService Nc) ends v.state }) c.collide.ensures))
