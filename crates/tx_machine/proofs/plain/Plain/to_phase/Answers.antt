use Rattle.tx_machine.proofs.Common.{◌≡◌, ◌∙◌, ap, sym, subst, map, length, true, with_items, with_items_is, Net, set_call, in_phase, is_circuit, Among, call_seen, To, net_of}
use Rattle.tx_machine.proofs.Whole.{circuit_marked, marks_to, whole_same, whole_changed, seen_same, seen_changed, err_with}
use Rattle.tx_machine.proofs.plain.Plain.to_phase.Goals as goal

pub invariant_of-self : goal.invariant_of-self
invariant_of-self g c =
    whole_same c.self.inside.plan.now c.self.inside.calls c.self.inside.tickets c.self.inside.marks c.self.inside.numbers c.self.invariant c.as_mut_slice.result.now c.reserve_hop.new.calls c.as_mut_slice.ensures.value c.as_mut_slice.ensures.len c.reserve_hop.ensures.seen c.reserve_hop.ensures.len c.reserve_hop.ensures.room

pub returns-in_err-reserve_hop-clause-err : goal.returns-in_err-reserve_hop-clause-err
returns-in_err-reserve_hop-clause-err g c =
    let n = c.self.inside in
    let w = net_of n.plan.now n.calls.items n.marks n.faulty.items n.away.items n.numbers n.events n.tickets.items in
    let calls = seen_same n.calls c.as_mut_slice.result.now c.reserve_hop.new.calls c.as_mut_slice.ensures.value c.as_mut_slice.ensures.len c.reserve_hop.ensures.seen c.reserve_hop.ensures.len in
    err_with c.from_residual.result _ ((λ i. record w { state = record w.state { calls = calls i } }) ∙ c.self.view_is)

pub change_numbered-requires : goal.change_numbered-requires
change_numbered-requires g c = λ d m. c.in_ok-reserve_hop.ensures.ready d (subst (λ l. Among d l) (c.as_mut_slice-2.ensures.value ∙ with_items_is c.self.inside.calls c.reserve_hop.new.calls (c.reserve_hop.ensures.len ∙ c.as_mut_slice.ensures.len)) m)

pub invariant_of-self-2 : goal.invariant_of-self-2
invariant_of-self-2 g c =
    let n = c.self.inside in
    let p = n.plan.now in
    let calls = with_items n.calls c.reserve_hop.new.calls in
    let w = whole_same p n.calls n.tickets n.marks n.numbers c.self.invariant c.as_mut_slice.result.now c.reserve_hop.new.calls c.as_mut_slice.ensures.value c.as_mut_slice.ensures.len c.reserve_hop.ensures.seen c.reserve_hop.ensures.len c.reserve_hop.ensures.room in
    whole_changed p calls n.tickets n.marks n.numbers w c.args.number (To c.args.phase) c.as_mut_slice-2.result.now c.change_numbered.new.calls c.as_mut_slice-2.ensures.value c.as_mut_slice-2.ensures.len c.change_numbered.ensures.seen c.change_numbered.ensures.len c.change_numbered.ensures.room
    (marks_to (length p.groups) n.numbers c.args.number (map call_seen calls.items) w.held c.args.phase (λ x e. circuit_marked p w.rules x (subst (λ (v : Net). is_circuit v.plan x ≡ true) (sym c.self.view_is) (c.requires x e))))

pub returns-clause-ok : goal.returns-clause-ok
returns-clause-ok g c =
    let n = c.self.inside in
    let s = (net_of n.plan.now n.calls.items n.marks n.faulty.items n.away.items n.numbers n.events n.tickets.items).state in
    let to = set_call c.args.number (in_phase c.args.phase) in
    let calls = with_items n.calls c.reserve_hop.new.calls in
    let seen = seen_changed calls c.args.number (To c.args.phase) c.as_mut_slice-2.result.now c.change_numbered.new.calls c.as_mut_slice-2.ensures.value c.as_mut_slice-2.ensures.len c.change_numbered.ensures.seen c.change_numbered.ensures.len
    ∙ ap to (seen_same n.calls c.as_mut_slice.result.now c.reserve_hop.new.calls c.as_mut_slice.ensures.value c.as_mut_slice.ensures.len c.reserve_hop.ensures.seen c.reserve_hop.ensures.len) in
    (λ i. record s { calls = seen i }) ∙ ap (λ (v : Net). record v.state { calls = to v.state.calls }) c.self.view_is
