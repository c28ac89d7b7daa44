use Rattle.tx_machine.proofs.Common.{ap, ◌∙◌, sym, subst, [], map, call_seen, is_given, with_more, Circuits, HasMark, circuit_called, circuits_carried, circuits_used, Among, among_left, among_right, Hop, filter, if◌then◌else◌}
use Rattle.tx_machine.proofs.Giving.{more_given, more_none}
use Rattle.tx_machine.proofs.plain.ended_calls.give_if.Goals as goal

pub give_hops-requires : goal.give_hops-requires
give_hops-requires g c = λ x m. c.requires x (among_left x (circuits_carried (call_seen c.args.call.now)) (circuit_called c.args.call.now.phase) (subst (λ (hs : _). Among x (map (λ (h : Hop). h.circuit) hs)) c.deref.ensures.value m))

pub give_phase-requires : goal.give_phase-requires
give_phase-requires g c = λ x m. subst (λ n. HasMark n x) (sym (ap (λ (v : Circuits). v.groups) c.give_hops.ensures)) (c.requires x (among_right x (circuits_carried (call_seen c.args.call.now)) (circuit_called c.args.call.now.phase) m))

pub returns-then-ended : goal.returns-then-ended
returns-then-ended g c =
    let d = call_seen c.args.call.now in
    let t = is_given c.args.ends.now (map call_seen c.args.calls.now) in
    more_given t c.args.releasing.now c.give_hops.new.releasing c.give_phase.new.releasing (circuits_carried d) (circuit_called c.args.call.now.phase)
    (c.give_hops.ensures ∙ ap (λ hs. with_more c.args.releasing.now (filter t (map (λ (h : Hop). h.circuit) hs))) c.deref.ensures.value) c.give_phase.ensures
    ∙ sym (ap (λ b. with_more c.args.releasing.now (filter t (if b then circuits_used d else []))) (sym c.is_ended-ended.ensures ∙ c.if-ended.true))

pub returns-else-ended : goal.returns-else-ended
returns-else-ended g c =
    let d = call_seen c.args.call.now in
    sym (ap (λ b. with_more c.args.releasing.now (filter (is_given c.args.ends.now (map call_seen c.args.calls.now)) (if b then circuits_used d else []))) (sym c.is_ended-ended.ensures ∙ c.if-ended.false) ∙ more_none c.args.releasing.now)
