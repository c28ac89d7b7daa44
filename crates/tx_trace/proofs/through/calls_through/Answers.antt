use Rattle.tx_trace.proofs.Common.{ℕ, [], ap, ◌∙◌, arith, flat_map, range_with_len, passing_for}
use Rattle.tx_trace.proofs.Passing.{grown}
use Rattle.tx_trace.proofs.through.calls_through.Goals as goal

pub loop-index-preserved : goal.loop-index-preserved
loop-index-preserved g c =
    grown (passing_for c.args.plan.now c.args.through.now) [] c.loop-index.found.items c.add_for.new.found.items c.loop-index.index c.of.result c.of.ensures c.loop-index.invariant c.in_ok-add_for.ensures

pub returns : goal.returns
returns g c =
    c.loop-index.invariant
    ∙ ap (λ (n : ℕ). flat_map (passing_for c.args.plan.now c.args.through.now) (range_with_len 0 n)) (
    let t = c.loop-index-test.false in
    let a = c.loop-index.auto.index-end in
    let n = c.codes-index-end.ensures.count in
    omega arith
    )
