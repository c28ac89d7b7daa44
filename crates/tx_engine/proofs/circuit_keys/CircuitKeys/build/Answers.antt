use Rattle.tx_engine.proofs.Common.{arith, sym, ap, ◌∙◌, ◌+◌, subst, count_of}
use Rattle.tx_engine.proofs.WrittenKeys.{AreLong, long_push, long_has}
use Rattle.tx_engine.proofs.circuit_keys.CircuitKeys.build.Goals as goal

pub returns : goal.returns
returns g c =
    let i = c.loop-index.invariant in
    let test = c.loop-index-test.false in
    let auto = c.loop-index.auto.index-end in
    long_has (λ row. row.items) c.args.plan.now c.loop-index.rows.items i.3 (omega (arith, i.0, i.1, c.loop-index.rows.ok.0, test, auto))

pub loop-index-preserved : goal.loop-index-preserved
loop-index-preserved g c =
    let i = c.loop-index.invariant in
    let row = c.in_ok-row.row in (
      omega (arith, i.0, c.push_reserved.ensures.len),
      i.1,
      omega (arith, i.2, c.push_reserved.ensures.capacity),
      subst (AreLong (λ row. row.items) c.args.plan.now) (sym c.push_reserved.ensures.items)
          (long_push (λ row. row.items) c.args.plan.now c.loop-index.rows.items row c.loop-index.index i.3 (omega (arith, i.0, c.loop-index.rows.ok.0))
          (sym row.ok.0 ∙ c.in_ok-row.ensures.len ∙ ap (λ n. n + 1) (c.group_count-count.ensures.value ∙ ap (count_of c.args.plan.now) c.of.ensures))),
    )
