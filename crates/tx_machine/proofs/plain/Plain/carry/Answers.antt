use Rattle.tx_machine.proofs.Common.{◌≡◌, ◌∙◌, ◌+◌, ap, sym, subst, map, length, Some, ◌==◌, eqb-true, At, Net, set_call, Call, call_of, call_seen, changed_call, net_of, Carry}
use Rattle.tx_machine.proofs.Lists.{find_mem}
use Rattle.tx_machine.proofs.Whole.{marks_carry, whole_changed, whole_ready, seen_changed}
use Rattle.tx_machine.proofs.plain.Plain.carry.Goals as goal

pub change_numbered-requires : goal.change_numbered-requires
change_numbered-requires g c =
    let met = c.requires in
    let e = subst (λ (n : Net). call_of c.args.number n.state.calls ≡ Some met.0) (sym c.self.view_is) met.1 in
    whole_ready c.self.inside.plan.now c.self.inside.calls c.self.inside.tickets c.self.inside.marks c.self.inside.numbers c.self.invariant c.as_mut_slice.result.now c.as_mut_slice.ensures.value c.args.number met.0 c.args.hop.now.circuit e met.2

pub invariant_of-self : goal.invariant_of-self
invariant_of-self g c =
    let n = c.self.inside in
    let met = c.requires in
    let e = subst (λ (n : Net). call_of c.args.number n.state.calls ≡ Some met.0) (sym c.self.view_is) met.1 in
    let r = find_mem (λ (d : Call). d.number == c.args.number) (map call_seen n.calls.items) met.0 e in
    whole_changed n.plan.now n.calls n.tickets n.marks n.numbers c.self.invariant c.args.number (Carry c.args.hop.now) c.as_mut_slice.result.now c.change_numbered.new.calls c.as_mut_slice.ensures.value c.as_mut_slice.ensures.len c.change_numbered.ensures.seen c.change_numbered.ensures.len c.change_numbered.ensures.room
    (marks_carry (length n.plan.now.groups) n.numbers c.args.number (map call_seen n.calls.items) c.self.invariant.held c.args.hop.now met.0 r.0 (eqb-true met.0.number c.args.number r.1) met.2)

pub returns-clause-step : goal.returns-clause-step
returns-clause-step g c =
    let n = c.self.inside in
    let hop = c.args.hop.now in
    let s = (net_of n.plan.now n.calls.items n.marks n.faulty.items n.away.items n.numbers n.events n.tickets.items).state in
    let seen = seen_changed n.calls c.args.number (Carry hop) c.as_mut_slice.result.now c.change_numbered.new.calls c.as_mut_slice.ensures.value c.as_mut_slice.ensures.len c.change_numbered.ensures.seen c.change_numbered.ensures.len in
    sym ((λ i. (At hop.far, record s { calls = seen i })) ∙ ap (λ (v : Net). (At hop.far, record v.state { calls = set_call c.args.number (changed_call (Carry hop)) v.state.calls })) c.self.view_is)
