use Rattle.tx_machine.proofs.Common.{ap, ◌∙◌, sym, subst, not, map, List, filter, flat_map, circuit_cmp, Among, among_map, end_calls, Net, Call, circuits_used, Circuits, HasMark, call_seen, ends_by, is_given, net_of}
use Rattle.std.specs.FinSet as set
use Rattle.tx_machine.proofs.Whole.{whole_ended, given_same}
use Rattle.tx_machine.proofs.Views.{filter_map_seen}
use Rattle.tx_machine.proofs.plain.Plain.end.Goals as goal

pub give_up-requires : goal.give_up-requires
give_up-requires g c = λ d m x n. subst (λ k. HasMark k x) (sym c.self.invariant.marks_all.releasing) (c.self.invariant.held.marked (call_seen d) (among_map call_seen d c.self.inside.calls.items (subst (λ l. Among d l) c.as_slice.ensures.value m)) x n)

pub take_out-requires : goal.take_out-requires
take_out-requires g c = c.self.invariant.room

pub invariant_of-self : goal.invariant_of-self
invariant_of-self g c =
    let n = c.self.inside in
    whole_ended n.plan.now n.calls n.tickets n.marks n.numbers c.self.invariant c.args.ends.now c.take_out.new.calls c.take_out.new.tickets c.give_up.new.releasing c.take_out.ensures.calls c.take_out.ensures.room (ap (λ (v : Circuits). v.groups) c.give_up.ensures)

pub returns : goal.returns
returns g c =
    let ends = c.args.ends.now in
    let cause = c.args.cause in
    let n = c.self.inside in
    let w = net_of n.plan.now n.calls.items n.marks n.faulty.items n.away.items n.numbers n.events n.tickets.items in
    let calls = ap (map call_seen) c.take_out.ensures.calls ∙ filter_map_seen (λ d. not (ends_by ends d)) call_seen n.calls.items in
    let given = λ (l : List Call). filter (is_given ends l) (flat_map circuits_used (filter (ends_by ends) l)) in
    let releasing = ap (λ (v : Circuits). v.marked) c.give_up.ensures ∙ ap (λ xs. set.union n.marks.releasing.marked (set.from_list {R = circuit_cmp} xs)) (ap (λ l. given (map call_seen l)) c.as_slice.ensures.value ∙ given_same ends (map call_seen n.calls.items)) in
    (λ i. record w { state = record w.state { calls = calls i; releasing = releasing i; tickets = c.take_out.ensures.tickets i } })
    ∙ ap (λ (v : Net). record v { state = end_calls v.plan cause (ends_by ends) v.state }) c.self.view_is
