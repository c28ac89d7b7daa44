use Rattle.tx_trace.proofs.Common.{ℕ, [], map, ap, ◌∙◌, arith, flat_map, range_with_len, changed_for, calls_of}
use Rattle.tx_trace.proofs.Passing.{grown}
use Rattle.tx_trace.proofs.way_changes.changes_of_ways.Goals as goal

pub loop-index-preserved : goal.loop-index-preserved
loop-index-preserved g c = record {
  ways = c.in_ok-add_for.ensures.ways;
  calls = grown (changed_for c.args.plan.now c.args.old.now) [] (map calls_of c.loop-index.found.items) (map calls_of c.add_for.new.found.items) c.loop-index.index c.of.result c.of.ensures c.loop-index.invariant.calls c.in_ok-add_for.ensures.calls;
}

pub returns-clause-calls : goal.returns-clause-calls
returns-clause-calls g c =
    c.loop-index.invariant.calls
    ∙ ap (λ (n : ℕ). flat_map (changed_for c.args.plan.now c.args.old.now) (range_with_len 0 n)) (
    let t = c.loop-index-test.false in
    let a = c.loop-index.auto.index-end in
    let n = c.codes-index-end.ensures.count in
    omega arith
    )
