use Rattle.tx_down.proofs.Common.{◌∙◌, sym, arith, slice_get, entry_at, exits_with, taken_last, its_codes}
use Rattle.tx_join.proofs.NextDeclared.{not_none}
use Rattle.tx_down.proofs.Taking.{range_fits, range_added, out_of_memory}
use Rattle.tx_down.proofs.network.add_ranges.Goals as goal

pub unreachable-requires : goal.unreachable-requires
unreachable-requires g c =
    let p = c.args.from.now in
    let t = c.loop-index-test.true in
    let n = c.ranges-index-end.ensures.count in
    let e = entry_at p.ranges c.loop-index.index (omega arith) in
    not_none (slice_get p.ranges c.loop-index.index) e.0 e.1 (sym c.in-None.is ∙ c.range_at.ensures)

pub returns-in_err-lines-in-Some-clause-memory : goal.returns-in_err-lines-in-Some-clause-memory
returns-in_err-lines-in-Some-clause-memory g c =
    rw (exits_with c.from_residual.result c.in_err-lines-in-Some.field-0.0 c.from_residual.ensures.1)
    (out_of_memory _ _ (range_fits c.args.from.now c.ranges-index-end.ensures.rules c.loop-index.builder
    c.in-Some.range _ _ _ c.loop-index.index (sym c.in-Some.ensures) c.loop-index.invariant
    c.code_figures-figures.ensures.value c.bytes.ensures.value c.bytes-in-Some.ensures.value) c.in_err-lines-in-Some.ensures.1)

pub loop-index-preserved : goal.loop-index-preserved
loop-index-preserved g c =
    c.in_ok-lines-in-Some.ensures.1 ∙ range_added c.args.from.now c.ranges-index-end.ensures.rules c.loop-index.builder
    c.in-Some.range _ _ _ c.loop-index.index (sym c.in-Some.ensures) c.loop-index.invariant
    c.code_figures-figures.ensures.value c.bytes.ensures.value c.bytes-in-Some.ensures.value

pub returns-clause-added : goal.returns-clause-added
returns-clause-added g c =
    let t = c.loop-index-test.false in
    let a = c.loop-index.auto.index-end in
    let n = c.ranges-index-end.ensures.count in
    c.loop-index.invariant
    ∙ (λ j. record (its_codes c.args.from.now) { ranges = taken_last c.args.from.now.ranges c.loop-index.index (omega arith) j })
