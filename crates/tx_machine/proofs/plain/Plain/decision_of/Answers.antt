use Rattle.tx_machine.proofs.Common.{ap, ◌∙◌, sym, map, ◌==◌, eqb-true, Net, Call, call_of, with_call, routed, call_seen, carried_out}
use Rattle.tx_machine.proofs.Lists.{find_mem}
use Rattle.tx_machine.proofs.plain.Plain.decision_of.Goals as goal

pub returns : goal.returns
returns g c =
    let v = c.args.self.now in
    let n = c.args.number in
    let d = call_seen c.in-Some.call.now in
    let e = ap (λ (v : Net). call_of n v.state.calls) (sym c.self.view_is) ∙ ap (λ l. call_of n (map call_seen l)) (sym c.as_slice.ensures.value) ∙ c.in-Some.ensures in
    let r = find_mem (λ (k : Call). k.number == n) v.state.calls d e in
    ap (λ o. with_call o v.state (routed v.plan v.state)) e ∙ c.decide.ensures ∙ ap (λ k. carried_out v.plan v.state k c.decide.result) (eqb-true d.number n r.1)
