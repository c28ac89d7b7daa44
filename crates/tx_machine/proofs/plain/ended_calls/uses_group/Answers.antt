use Rattle.tx_machine.proofs.Common.{ap, ◌∙◌, sym, ◌||◌, ◌==◌, map, list_any, list_any-append, Circuit, Hop, circuit_called}
use Rattle.tx_machine.proofs.Views.{any_map}
use Rattle.tx_machine.proofs.plain.ended_calls.uses_group.Goals as goal

pub returns-then-carried : goal.returns-then-carried
returns-then-carried g c =
    let hops = c.args.call.now.hops.items in
    let group = c.args.group in
    c.if-carried.true
    ∙ (λ i. (sym c.if-carried.true ∙ c.hops_use-carried.ensures ∙ ap (list_any (λ (h : Hop). h.circuit.group == group)) c.deref.ensures.value ∙ any_map (λ (x : Circuit). x.group == group) (λ (h : Hop). h.circuit) hops) i || c.phase_uses-called.ensures i)
    ∙ sym (list_any-append (λ (x : Circuit). x.group == group) (map (λ (h : Hop). h.circuit) hops) (circuit_called c.args.call.now.phase))

pub returns-else-carried : goal.returns-else-carried
returns-else-carried g c =
    let hops = c.args.call.now.hops.items in
    let group = c.args.group in
    (λ i. (sym c.if-carried.false ∙ c.hops_use-carried.ensures ∙ ap (list_any (λ (h : Hop). h.circuit.group == group)) c.deref.ensures.value ∙ any_map (λ (x : Circuit). x.group == group) (λ (h : Hop). h.circuit) hops) i || c.phase_uses-called.ensures i)
    ∙ sym (list_any-append (λ (x : Circuit). x.group == group) (map (λ (h : Hop). h.circuit) hops) (circuit_called c.args.call.now.phase))
