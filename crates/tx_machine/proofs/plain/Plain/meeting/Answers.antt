use Rattle.tx_machine.proofs.Common.{◌≡◌, ap, ◌∙◌, sym, not, ◌&&◌, ◌==◌, map, Some, None, find, At, Net, Call, far_of, rival, seizes_from, set_call, call_seen, changed_call, Carry}
use Rattle.tx_machine.proofs.Confirmed.{confirms}
use Rattle.tx_machine.proofs.plain.Plain.meeting.Goals as goal

pub returns-in-None : goal.returns-in-None
returns-in-None g c =
    let v = c.args.self.now in
    let d = call_seen c.args.call.now in
    let x = c.in-Calling.circuit in
    let plan = ap (λ (n : Net). n.plan) c.self.view_is in
    let far : far_of v.plan d x ≡ c.far_of-far.result = sym (c.far_of-far.ensures ∙ ap (λ p. far_of p d x) plan) in
    let calls : v.state.calls ≡ map call_seen c.as_slice.result.now = ap (λ (n : Net). n.state.calls) (sym c.self.view_is) ∙ ap (map call_seen) (sym c.as_slice.ensures.value) in
    let alone : rival v.plan v.state d x ≡ None = (λ i. find (λ (k : Call). not (k.number == d.number) && seizes_from (sym plan i) k x (far i)) (calls i)) ∙ c.in-None.ensures in
    record { done = confirms v.plan v.state d x None c.in-Calling.is alone ∙ ap (λ f. (At f, record v.state { calls = set_call d.number (changed_call (Carry (record { circuit = x; far = f }))) v.state.calls })) far; on = c.in-Calling.is }

pub returns-in-Some : goal.returns-in-Some
returns-in-Some g c =
    let v = c.args.self.now in
    let d = call_seen c.args.call.now in
    let x = c.in-Calling.circuit in
    let plan = ap (λ (n : Net). n.plan) c.self.view_is in
    let far : far_of v.plan d x ≡ c.far_of-far.result = sym (c.far_of-far.ensures ∙ ap (λ p. far_of p d x) plan) in
    let calls : v.state.calls ≡ map call_seen c.as_slice.result.now = ap (λ (n : Net). n.state.calls) (sym c.self.view_is) ∙ ap (map call_seen) (sym c.as_slice.ensures.value) in
    let other : rival v.plan v.state d x ≡ Some (call_seen c.in-Some.other.now) = (λ i. find (λ (k : Call). not (k.number == d.number) && seizes_from (sym plan i) k x (far i)) (calls i)) ∙ c.in-Some.ensures in
    record { done = confirms v.plan v.state d x (Some (call_seen c.in-Some.other.now)) c.in-Calling.is other; on = c.in-Calling.is }
