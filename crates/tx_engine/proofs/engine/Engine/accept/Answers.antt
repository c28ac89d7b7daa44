use Rattle.tx_engine.proofs.Common.{◌≡◌, ◌<◌, ◌-◌, ◌^◌, ◌++◌, [], ◌∷◌, None, length, sym, ap, subst, ◌∙◌, deque_len, deque_capacity, nat_le, is_circuit, Net, is_circuit-same, calls_in, AreSound}
use Rattle.std.proofs.lemmas.Bool.{not-false}
use Rattle.std.proofs.lemmas.List.{length-map}
use Rattle.tx_machine.specs.declared.event.Event.{Event}
use Rattle.tx_machine.specs.declared.event.Event.TheVariants.{Block, CircuitOut}
use Rattle.tx_machine.specs.declared.refusal.Refusal.TheVariants.{Exhausted}
use Rattle.tx_machine.specs.Refusals.{refusal, refusals}
use Rattle.tx_machine.proofs.Steps.{tests_false}
use Rattle.tx_machine.proofs.Unrefused.{group_within}
use Rattle.tx_circuits.specs.Table.{Table, without_name}
use Rattle.tx_engine.proofs.Changing.{sound_table}
use Rattle.tx_engine.proofs.Together.{released_together}
use Rattle.tx_engine.proofs.engine.Engine.accept.Goals as goal

pub invariant_of-self-in-Released : goal.invariant_of-self-in-Released
invariant_of-self-in-Released g c =
    let n = c.self-in-Released.inside.inner in
    let sound = c.self-in-Released.invariant in
    subst (λ (t : Table). AreSound n.plan.now n.codes n.calls n.keys n.lines t n.numbers (deque_len n.tickets) (deque_capacity n.tickets)) (sym c.released.ensures)
    (sound_table n.plan.now n.codes n.calls n.keys n.lines n.circuits n.numbers (deque_len n.tickets) (deque_capacity n.tickets) sound _
    (released_together n.plan.now (calls_in n.calls) n.circuits n.lines n.numbers sound.together c.in-Released.circuit))

pub block-requires-clause-known : goal.block-requires-clause-known
block-requires-clause-known g c =
    let v = c.args.self.now in
    let s = c.self-in-Block in
    let x = c.in-Block.group in
    let none : refusal v.plan v.state (Block x) ≡ None = subst (λ (e : Event). refusal v.plan v.state e ≡ None) c.in-Block.is c.requires in
    let tests = tests_false (refusals v.plan v.state (Block x) ++ (nat_le (2 ^ 64 - 1) v.state.events, Exhausted) ∷ []) none in
    subst (λ n. x < n) (sym (ap length s.invariant.together.used.groups ∙ length-map s.inside.inner.plan.now.groups without_name))
    (subst (λ (v : Net). x < length v.plan.groups) (sym s.view_is) (group_within v.plan x tests.1.0))

pub put_out-requires-clause-known : goal.put_out-requires-clause-known
put_out-requires-clause-known g c =
    let v = c.args.self.now in
    let s = c.self-in-CircuitOut in
    let x = c.in-CircuitOut.circuit in
    let none : refusal v.plan v.state (CircuitOut x) ≡ None = subst (λ (e : Event). refusal v.plan v.state e ≡ None) c.in-CircuitOut.is c.requires in
    let tests = tests_false (refusals v.plan v.state (CircuitOut x) ++ (nat_le (2 ^ 64 - 1) v.state.events, Exhausted) ∷ []) none in
    is_circuit-same s.inside.inner.plan.now s.inside.inner.circuits s.invariant.together.used.groups x
    ∙ ap (λ (v : Net). is_circuit v.plan x) s.view_is ∙ not-false (is_circuit v.plan x) tests.1.0
