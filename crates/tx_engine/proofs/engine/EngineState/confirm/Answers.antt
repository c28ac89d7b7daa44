use Rattle.tx_engine.proofs.Common.{is_some, ap, state_of}
use Rattle.tx_machine.proofs.Unrefused.{can_confirm}
use Rattle.tx_engine.proofs.engine.EngineState.confirm.Goals as goal

pub key_of-key-requires : goal.key_of-key-requires
key_of-key-requires g c = (can_confirm c.args.self.now.plan.now (state_of c.args.self.now) c.args.number c.requires.open).0

pub at-requires : goal.at-requires
at-requires g c = ap is_some c.key_of-key.ensures.1.kept
