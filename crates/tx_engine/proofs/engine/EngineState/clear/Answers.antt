use Rattle.tx_engine.proofs.Common.{is_some, ap, state_of}
use Rattle.tx_machine.specs.declared.event.Event.TheVariants.{Clear}
use Rattle.tx_machine.proofs.Unrefused.{can_count, can_clear}
use Rattle.tx_engine.proofs.engine.EngineState.clear.Goals as goal

pub key_of-key-requires : goal.key_of-key-requires
key_of-key-requires g c = can_clear c.args.self.now.plan.now (state_of c.args.self.now) c.args.number c.args.party c.requires.open

pub end_call-requires-clause-there : goal.end_call-requires-clause-there
end_call-requires-clause-there g c = ap is_some c.key_of-key.ensures.1.kept

pub end_call-requires-clause-events : goal.end_call-requires-clause-events
end_call-requires-clause-events g c = can_count c.args.self.now.plan.now (state_of c.args.self.now) (Clear c.args.number c.args.party) c.requires.open
