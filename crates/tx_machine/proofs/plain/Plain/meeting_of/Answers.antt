use Rattle.tx_machine.proofs.Common.{ap, ◌∙◌, sym, map, ◌==◌, eqb-true, subst, length, inl, refl, Net, Call, call_of, circuit_called, with_call, confirmed, circuits_carried, Among, among_right, HasMark, call_seen}
use Rattle.tx_machine.proofs.Lists.{find_mem}
use Rattle.tx_machine.proofs.Confirmed.{met}
use Rattle.tx_machine.specs.inner.Met.{meeting_done}
use Rattle.tx_machine.proofs.plain.Plain.meeting_of.Goals as goal

pub returns-clause-done : goal.returns-clause-done
returns-clause-done g c =
    let v = c.args.self.now in
    let n = c.args.number in
    let d = call_seen c.in-Some.call.now in
    let e = ap (λ (v : Net). call_of n v.state.calls) (sym c.self.view_is) ∙ ap (λ l. call_of n (map call_seen l)) (sym c.as_slice.ensures.value) ∙ c.in-Some.ensures in
    let r = find_mem (λ (k : Call). k.number == n) v.state.calls d e in
    ap (λ o. with_call o v.state (λ (k : Call). confirmed v.plan v.state k k.phase)) e ∙ c.meeting.ensures.done ∙ ap (λ k. meeting_done v.plan v.state k c.meeting.result) (eqb-true d.number n r.1)

pub returns-clause-met : goal.returns-clause-met
returns-clause-met g c =
    let v = c.args.self.now in
    let n = c.args.number in
    let d = call_seen c.in-Some.call.now in
    let e = ap (λ (v : Net). call_of n v.state.calls) (sym c.self.view_is) ∙ ap (λ l. call_of n (map call_seen l)) (sym c.as_slice.ensures.value) ∙ c.in-Some.ensures in
    let r = find_mem (λ (k : Call). k.number == n) v.state.calls d e in
    let w = c.self.invariant in
    let m = find_mem (λ (k : Call). k.number == n) (map call_seen c.self.inside.calls.items) d (ap (λ l. call_of n (map call_seen l)) (sym c.as_slice.ensures.value) ∙ c.in-Some.ensures) in
    met v.plan v.state n d c.meeting.result e c.meeting.ensures.on (λ x q. subst (λ (k : Net). HasMark (length k.plan.groups) x) c.self.view_is (w.held.marked d m.0 x (among_right x (circuits_carried d) (circuit_called d.phase) (subst (λ ph. Among x (circuit_called ph)) (sym q) (inl refl)))))
