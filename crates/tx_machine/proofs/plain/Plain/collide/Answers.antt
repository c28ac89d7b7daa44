use Rattle.tx_machine.proofs.Common.{◌∙◌, ap, sym, subst, length, map, with_items, Net, collide, set_call, call_seen, changed_call, Circuits, HasMark, net_of, ThrowBack}
use Rattle.std.specs.FinSet as set
use Rattle.tx_machine.proofs.Whole.{whole_changed, whole_marks, marks_back, seen_changed, thrown_twice}
use Rattle.tx_machine.proofs.plain.Plain.collide.Goals as goal

pub set-requires : goal.set-requires
set-requires g c =
    let w = c.self.invariant in
    let x = c.args.circuit.now in
    subst (λ n. HasMark n x) (sym w.marks_all.releasing) (subst (λ (n : Net). HasMark (length n.plan.groups) x) (sym c.self.view_is) c.requires)

pub invariant_of-self : goal.invariant_of-self
invariant_of-self g c =
    let n = c.self.inside in
    let p = n.plan.now in
    let first = with_items n.calls c.change_numbered.new.calls in
    let v = whole_changed p n.calls n.tickets n.marks n.numbers c.self.invariant c.args.a ThrowBack c.as_mut_slice.result.now c.change_numbered.new.calls c.as_mut_slice.ensures.value c.as_mut_slice.ensures.len c.change_numbered.ensures.seen c.change_numbered.ensures.len c.change_numbered.ensures.room
    (marks_back (length p.groups) n.numbers c.args.a (map call_seen n.calls.items) c.self.invariant.held) in
    let w = whole_changed p first n.tickets n.marks n.numbers v c.args.b ThrowBack c.as_mut_slice-2.result.now c.change_numbered-2.new.calls c.as_mut_slice-2.ensures.value c.as_mut_slice-2.ensures.len c.change_numbered-2.ensures.seen c.change_numbered-2.ensures.len c.change_numbered-2.ensures.room
    (marks_back (length p.groups) n.numbers c.args.b (map call_seen first.items) v.held) in
    let all = w.marks_all in
    whole_marks p (with_items first c.change_numbered-2.new.calls) n.tickets n.marks n.numbers w (record n.marks { releasing = c.set.new.self }) (record { failed = all.failed; blocked = all.blocked; releasing = ap (λ (v : Circuits). v.groups) c.set.ensures ∙ all.releasing; out = all.out })

pub returns : goal.returns
returns g c =
    let n = c.self.inside in
    let w = net_of n.plan.now n.calls.items n.marks n.faulty.items n.away.items n.numbers n.events n.tickets.items in
    let first = with_items n.calls c.change_numbered.new.calls in
    let seen = seen_changed first c.args.b ThrowBack c.as_mut_slice-2.result.now c.change_numbered-2.new.calls c.as_mut_slice-2.ensures.value c.as_mut_slice-2.ensures.len c.change_numbered-2.ensures.seen c.change_numbered-2.ensures.len
    ∙ ap (set_call c.args.b (changed_call ThrowBack)) (seen_changed n.calls c.args.a ThrowBack c.as_mut_slice.result.now c.change_numbered.new.calls c.as_mut_slice.ensures.value c.as_mut_slice.ensures.len c.change_numbered.ensures.seen c.change_numbered.ensures.len)
    ∙ thrown_twice c.args.a c.args.b (map call_seen n.calls.items) in
    (λ i. record w { state = record w.state { calls = seen i; releasing = (c.set.ensures i).marked } })
    ∙ ap (λ (v : Net). record v { state = collide c.args.a c.args.b c.args.circuit.now v.state }) c.self.view_is
