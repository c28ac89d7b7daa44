use Rattle.tx_machine.proofs.Common.{ap, ◌∙◌, sym, subst, [], map, take, arith, call_seen, is_given, with_more, ends_by, Circuits, HasMark, circuits_used, filter, if◌then◌else◌, flat_map, map_push, among_at}
use Rattle.tx_machine.proofs.Giving.{more_none, more_given, take_more, used_more}
use Rattle.tx_machine.proofs.plain.ended_calls.give_up.Goals as goal

pub loop-at-init : goal.loop-at-init
loop-at-init g c = (omega arith, sym (more_none c.args.releasing.now))

pub give_if-requires : goal.give_if-requires
give_if-requires g c =
    let d = c.index-calls-at.result in
    let m = among_at c.args.calls.now c.loop-at.at d c.loop-at-test.true c.index-calls-at.is in
    λ x n. subst (λ k. HasMark k x) (sym (ap (λ (v : Circuits). v.groups) c.loop-at.invariant.1)) (c.requires d m x n)

pub loop-at-preserved : goal.loop-at-preserved
loop-at-preserved g c =
    let d = c.index-calls-at.result in
    let t = is_given c.args.ends.now (map call_seen c.args.calls.now) in
    let ends = ends_by c.args.ends.now in
    let before = take c.loop-at.at c.args.calls.now in
    let more = take_more c.args.calls.now c.loop-at.at d c.loop-at-test.true c.index-calls-at.is in (
      omega arith,
      more_given t c.args.releasing.now c.loop-at.releasing c.give_if.new.releasing (flat_map circuits_used (filter ends (map call_seen before))) (if ends (call_seen d) then circuits_used (call_seen d) else []) c.loop-at.invariant.1 c.give_if.ensures
          ∙ ap (λ xs. with_more c.args.releasing.now (filter t xs)) (sym (ap (λ cs. flat_map circuits_used (filter ends (map call_seen cs))) more ∙ ap (λ cs. flat_map circuits_used (filter ends cs)) (map_push call_seen before d) ∙ used_more ends (map call_seen before) (call_seen d))),
    )
