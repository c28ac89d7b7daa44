use Rattle.std.proofs.Common.{◌≡◌, arith}
use Rattle.tx_rank.proofs.Passes.{passed_all}
use Rattle.tx_rank.proofs.explore.pass.Goals as goal

pub loop-index-init : goal.loop-index-init
loop-index-init g c = record { marked = c.requires.marked; none = c.requires.none; origins = λ x h o. absurd (omega arith) }

pub start_from-requires-clause-index : goal.start_from-requires-clause-index
start_from-requires-clause-index g c = let e = c.exchanges-index-end.ensures in let t = c.loop-index-test.true in omega arith

pub start_from-requires-clause-passing : goal.start_from-requires-clause-passing
start_from-requires-clause-passing g c = c.loop-index.invariant

pub loop-index-preserved : goal.loop-index-preserved
loop-index-preserved g c = c.in_ok-start_from.ensures.done c.if-branch.false

pub returns-then-branch-clause-closed : goal.returns-then-branch-clause-closed
returns-then-branch-clause-closed g c = λ _. c.in_ok-start_from.ensures.closed c.if-branch.true

pub returns-clause-done : goal.returns-clause-done
returns-clause-done g c = λ _.
    let n = g.N.CodeNet.net c.args.net.now in
    let all : c.loop-index.index ≡ n.exchanges = let t = c.loop-index-test.false in let a = c.loop-index.auto.index-end in let e = c.exchanges-index-end.ensures in omega arith in
    passed_all n c.loop-index.search.marks.items c.loop-index.index (g.met.N.CodeNet.is_net c.args.net.now) all c.loop-index.invariant
