use Rattle.tx_engine.proofs.Common.{sym, ap, State}
use Rattle.tx_machine.specs.declared.reply.Reply.TheVariants.{Answered}
use Rattle.tx_engine.proofs.engine.EngineState.answer.Goals as goal

pub returns-clause-step : goal.returns-clause-step
returns-clause-step g c = λ k at. ap (λ (s : State). (Answered c.args.service, s)) (sym (c.end_call.ensures.state k at))
