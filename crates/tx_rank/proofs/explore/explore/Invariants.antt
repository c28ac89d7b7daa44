use Rattle.tx_rank.specs.inner.Marks.{cost, IsTrail}
use Rattle.tx_rank.proofs.Passes.{IsExploring}
use Rattle.tx_rank.proofs.explore.explore.Given as goal

abbrev pub invariant-loop : goal.invariant-loop
invariant-loop g l =
    let n = g.N.CodeNet.net l.net in
    record {
      exploring : IsExploring n l.fn.search.start l.fn.search.marks.items l.search.start l.search.steps.items l.search.marks.items;
      tried : IsTrail n l.search.marks.items l.search.start l.search.steps.items l.search.before.items l.search.last;
    }

abbrev pub decreases-loop : goal.decreases-loop
decreases-loop g l = cost l.search.marks.items
