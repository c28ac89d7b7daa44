use Rattle.tx_risk.proofs.Common.{◌+◌, ◌∙◌, ℕ, List, ap, take, refl, sym, subst, arith, replicate, set, take_all, got_at, among_at, take_next, left_net, AreDeadEndsKept, home_alone, dead_end_at}
use Rattle.tx_risk.proofs.Measuring.{marks_first, marks_next}
use Rattle.tx_risk.proofs.nearest.dead_ends_kept.Goals as goal

pub loop-end-init : goal.loop-end-init
loop-end-init g c =
    marks_first (left_net c.args.left.now) c.in_ok-kept.kept.items
    (c.in_ok-kept.ensures.items_if_clones_equal (λ y e. e)
    ∙ ap (replicate c.exchanges.result) c.home_alone.ensures
    ∙ ap (λ (k : ℕ). replicate k home_alone) c.exchanges.ensures.count)

pub index_mut-requires : goal.index_mut-requires
index_mut-requires g c =
    let ends = c.args.dead_ends.now in
    let l = c.loop-end in
    let x = c.end-item.result in
    let within = c.requires x (among_at ends l.end-index x
    (got_at ends ends l.end-index x refl c.loop-end-test.true c.end-item.is)) in
    let long = l.invariant.long in
    let e = c.index.ensures in
    omega arith

pub loop-end-preserved : goal.loop-end-preserved
loop-end-preserved g c =
    let n = left_net c.args.left.now in
    let ends = c.args.dead_ends.now in
    let l = c.loop-end in
    let x = c.end-item.result in
    let at = got_at ends ends l.end-index x refl c.loop-end-test.true c.end-item.is in
    let within = c.requires x (among_at ends l.end-index x at) in
    subst (λ (k : ℕ). AreDeadEndsKept n (take (l.end-index + 1) ends) (set l.kept.items k (dead_end_at x)))
    (sym c.index.ensures)
    (subst (λ (e : List ℕ). AreDeadEndsKept n e (set l.kept.items x (dead_end_at x)))
    (sym (take_next ends l.end-index x at))
    (marks_next n (take l.end-index ends) l.kept.items x within l.invariant))

pub returns-clause-kept : goal.returns-clause-kept
returns-clause-kept g c =
    let ends = c.args.dead_ends.now in
    let l = c.loop-end in
    subst (λ (e : List ℕ). AreDeadEndsKept (left_net c.args.left.now) e l.kept.items)
    (take_all l.end-index ends (let t = c.loop-end-test.false in omega arith)) l.invariant
