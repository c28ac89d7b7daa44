use Rattle.tx_machine.proofs.Common.{ap, ◌∙◌, sym, subst, [], ◌∷◌, map, take, get_or, arith, call_seen, is_given, with_more, Circuits, HasMark, Hop, filter, map_push, among_map, among_at}
use Rattle.tx_machine.proofs.Giving.{more_none, more_given, take_more}
use Rattle.tx_machine.proofs.plain.ended_calls.give_hops.Goals as goal

pub loop-at-init : goal.loop-at-init
loop-at-init g c = (omega arith, sym (more_none c.args.releasing.now))

pub give-requires : goal.give-requires
give-requires g c =
    let h = get_or c.args.hops.now c.loop-at.at c.index-hops-at.result in
    let m = among_at c.args.hops.now c.loop-at.at h c.loop-at-test.true (ap (λ d. get_or c.args.hops.now c.loop-at.at d) c.index-hops-at.is) in
    subst (λ n. HasMark n h.circuit) (sym (ap (λ (v : Circuits). v.groups) c.loop-at.invariant.1)) (c.requires h.circuit (among_map (λ (h : Hop). h.circuit) h c.args.hops.now m))

pub loop-at-preserved : goal.loop-at-preserved
loop-at-preserved g c =
    let h = get_or c.args.hops.now c.loop-at.at c.index-hops-at.result in
    let t = is_given c.args.ends.now (map call_seen c.args.calls.now) in
    let more = take_more c.args.hops.now c.loop-at.at h c.loop-at-test.true (ap (λ d. get_or c.args.hops.now c.loop-at.at d) c.index-hops-at.is) in (
      omega arith,
      more_given t c.args.releasing.now c.loop-at.releasing c.give.new.releasing (map (λ (h : Hop). h.circuit) (take c.loop-at.at c.args.hops.now)) (h.circuit ∷ []) c.loop-at.invariant.1 c.give.ensures
          ∙ ap (λ xs. with_more c.args.releasing.now (filter t xs)) (sym (ap (map (λ (h : Hop). h.circuit)) more ∙ map_push (λ (h : Hop). h.circuit) (take c.loop-at.at c.args.hops.now) h)),
    )
