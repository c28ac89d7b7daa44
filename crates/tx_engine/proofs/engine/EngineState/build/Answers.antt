use Rattle.std.proofs.Common.{deque_len, deque_capacity}
use Rattle.tx_engine.proofs.Changing.{sound_opening}
use Rattle.tx_engine.proofs.Opening.{state_opening}
use Rattle.tx_engine.proofs.engine.EngineState.build.Goals as goal

pub returns-clause-sound : goal.returns-clause-sound
returns-clause-sound g c =
    sound_opening c.args.plan.now c.in_ok-codes.codes c.new.result c.in_ok-keys.keys c.in_ok-lines.lines c.in_ok-circuits.circuits c.args.numbers (deque_len c.new-2.result) (deque_capacity c.new-2.result)
    c.rules.ensures c.in_ok-codes.ensures c.new.ensures c.in_ok-keys.ensures c.in_ok-lines.ensures.lines c.in_ok-lines.ensures.engaged c.in_ok-circuits.ensures c.new-2.ensures.len

pub returns-clause-state : goal.returns-clause-state
returns-clause-state g c =
    state_opening c.args.plan.now c.new.result c.in_ok-lines.lines c.in_ok-circuits.circuits c.args.numbers c.args.events c.new-2.result.items c.new.ensures c.in_ok-lines.ensures.faulty c.in_ok-lines.ensures.away
    c.in_ok-circuits.ensures c.new-2.ensures.items
