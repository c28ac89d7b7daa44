use Rattle.tx_engine.proofs.Common.{sym, ◌∙◌, subst, deque_len, deque_capacity, Lost, calls_in, AreTogether, state_seen, state_of}
use Rattle.tx_engine.proofs.Accepted.{fail_done}
use Rattle.tx_engine.proofs.Together.{failed_together}
use Rattle.tx_engine.proofs.Changing.{sound_table}
use Rattle.tx_engine.proofs.engine.EngineState.fail.Goals as goal

pub returns-clause-sound : goal.returns-clause-sound
returns-clause-sound g c =
    let n = c.args.self.now in
    let m = c.lose_users-lost.new.self in
    let e = c.lose_users-lost.ensures in
    sound_table m.plan.now m.codes m.calls m.keys m.lines m.circuits m.numbers (deque_len m.tickets) (deque_capacity m.tickets) e.sound c.fail.new.self
    (subst (λ z. AreTogether m.plan.now (calls_in m.calls) z m.lines m.numbers) (sym c.fail.ensures) (failed_together m.plan.now (calls_in m.calls) m.circuits m.lines m.numbers e.sound.together c.args.group e.none))

pub returns-clause-step : goal.returns-clause-step
returns-clause-step g c =
    let n = c.args.self.now in
    let m = c.lose_users-lost.new.self in
    let e = c.lose_users-lost.ensures in
    fail_done n.plan.now c.args.group (state_of n) (state_of m) c.lose_users-lost.result e.losing e.none
    ∙ (λ i. (Lost c.lose_users-lost.result, state_seen (calls_in m.calls) (sym c.fail.ensures i) m.lines m.numbers m.events m.tickets.items))
