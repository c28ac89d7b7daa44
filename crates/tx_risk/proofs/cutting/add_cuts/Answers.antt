use Rattle.tx_risk.proofs.Common.{◌≡◌, ◌+◌, ◌∙◌, [], length, not, sym, ap, subst, arith, append-nil, list_any, Among, ranks_of, fails_at, left_net, AreDeadEnds, AreAllWays, Adds, AreCutsBefore}
use Rattle.tx_risk.proofs.AddedCuts.{before_none, before_all, asked_within}
use Rattle.tx_risk.proofs.Unhit.{unhit, emptied_dead}
use Rattle.tx_risk.proofs.cutting.add_cuts.Goals as goal

pub returns-then-not-is_hit-clause-cuts : goal.returns-then-not-is_hit-clause-cuts
returns-then-not-is_hit-clause-cuts g c =
    let l = c.args.left.now in
    let o = c.args.outage.now in
    let ends = c.args.ends.now in
    let k = c.requires.certified in
    let dead = c.deref.ensures.value ∙ c.in_ok-dead_ends.ensures in
    record {
      mine = [];
      added = sym (append-nil c.args.cuts.now.items);
      these = unhit l c.exchanges-exchanges.ensures.rules ends c.requires.ends (ranks_of c.args.ranks.now) k.0 k.1 k.2 o
          c.args.legs.now.items c.requires.takes
          (ap (list_any (λ x. not (fails_at o x))) (sym dead) ∙ sym c.is_hit.ensures ∙ c.if-not-is_hit.true);
    }

pub returns-then-not-is_hit-clause-grown : goal.returns-then-not-is_hit-clause-grown
returns-then-not-is_hit-clause-grown g c =
    record { more = []; added = sym (append-nil c.args.legs.now.items); few = omega arith }

pub not_above-from-requires-clause-dead_ends : goal.not_above-from-requires-clause-dead_ends
not_above-from-requires-clause-dead_ends g c =
    let l = c.args.left.now in
    let k = c.requires.certified in
    subst (AreDeadEnds (left_net l) c.args.order.now)
    (sym (c.deref-2.ensures.value ∙ c.in_ok-dead_ends.ensures))
    (emptied_dead l c.exchanges-exchanges.ensures.rules c.args.ends.now c.requires.ends (ranks_of c.args.ranks.now)
    k.0 k.1 k.2 c.args.order.now c.requires.by_rank)

pub ways_of-requires-clause-dead_ends : goal.ways_of-requires-clause-dead_ends
ways_of-requires-clause-dead_ends g c =
    let l = c.args.left.now in
    let k = c.requires.certified in
    subst (AreDeadEnds (left_net l) c.args.order.now)
    (sym (c.deref-3.ensures.value ∙ c.in_ok-dead_ends.ensures))
    (emptied_dead l c.exchanges-exchanges.ensures.rules c.args.ends.now c.requires.ends (ranks_of c.args.ranks.now)
    k.0 k.1 k.2 c.args.order.now c.requires.by_rank)

pub ways_of-requires-clause-before : goal.ways_of-requires-clause-before
ways_of-requires-clause-before g c = λ x m way.
    subst (Among x) (c.deref-2.ensures.value ∙ sym c.deref-3.ensures.value)
    (c.not_above-from.ensures x m way)

pub loop-index-init : goal.loop-index-init
loop-index-init g c =
    before_none c.args.left.now c.args.outage.now c.ways_of.new.legs.items c.args.cuts.now.items

pub loop-index-preserved : goal.loop-index-preserved
loop-index-preserved g c =
    let l = c.args.left.now in
    let o = c.args.outage.now in
    let legs = c.ways_of.new.legs.items in
    let first = c.args.cuts.now.items in
    let all = subst (λ k. AreAllWays (left_net l) legs k) (sym c.deref-in-loop-index.ensures.value)
    c.in_ok-kept.ensures.ways in
    subst (λ k. Adds (AreCutsBefore l o legs (k + 1)) first c.add_cut.new.cuts.items)
    c.of-exchange.ensures
    (c.in_ok-add_cut.ensures legs all first
    (subst (λ k. Adds (AreCutsBefore l o legs k) first c.loop-index.cuts.items)
    (sym c.of-exchange.ensures) c.loop-index.invariant))

pub returns-clause-cuts : goal.returns-clause-cuts
returns-clause-cuts g c =
    let l = c.args.left.now in
    let e = c.exchanges-exchanges.ensures in
    let all : c.loop-index.index ≡ length l.plan.exchanges =
    let t = c.loop-index-test.false in let a = c.loop-index.auto.index-end in
    let n = e.count in omega arith in
    before_all l c.args.outage.now c.ways_of.new.legs.items c.args.cuts.now.items c.loop-index.cuts.items c.loop-index.index
    (λ x a. let w = asked_within l.plan e.rules.rules c.args.outage.now l.code e.rules.code x a in
    omega arith) c.loop-index.invariant
