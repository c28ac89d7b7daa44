use Rattle.tx_join.proofs.Common.{◌∙◌, sym, arith, slice_get, entry_at}
use Rattle.tx_join.proofs.NextDeclared.{no_range, all_ranges, is_taken, taken_next, not_none}
use Rattle.tx_join.proofs.StepsDeclared.{range_fits, range_added}
use Rattle.tx_join.proofs.network.add_ranges.Goals as goal

pub loop-index-init : goal.loop-index-init
loop-index-init g c = no_range c.args.builder.now c.args.from.now

pub taken-requires : goal.taken-requires
taken-requires g c =
    is_taken _ _ _ _ c.lines.result (range_fits c.args.builder.now c.args.from.now c.loop-index.builder c.in-Some.range _ _ _ c.loop-index.index c.ranges-index-end.ensures.rules (sym c.in-Some.ensures) c.loop-index.invariant c.code_figures-figures.ensures.value c.bytes.ensures.value c.bytes-in-Some.ensures.value c.requires.rules c.requires.codes) c.lines.ensures

pub unreachable-requires : goal.unreachable-requires
unreachable-requires g c =
    let p = c.args.from.now in
    let t = c.loop-index-test.true in
    let n = c.ranges-index-end.ensures.count in
    let e = entry_at p.ranges c.loop-index.index (omega arith) in
    not_none (slice_get p.ranges c.loop-index.index) e.0 e.1 (sym c.in-None.is ∙ c.range_at.ensures)

pub loop-index-preserved : goal.loop-index-preserved
loop-index-preserved g c =
    range_added c.args.builder.now c.args.from.now c.loop-index.builder c.in-Some.range _ _ _ c.loop-index.index c.ranges-index-end.ensures.rules (sym c.in-Some.ensures) c.loop-index.invariant c.code_figures-figures.ensures.value c.bytes.ensures.value c.bytes-in-Some.ensures.value c.requires.rules c.requires.codes _ (taken_next _ _ _ _ _ c.in_ok-taken-in-Some.ensures.ok c.lines.ensures)

pub returns-clause-added : goal.returns-clause-added
returns-clause-added g c =
    let t = c.loop-index-test.false in
    let a = c.loop-index.auto.index-end in
    let n = c.ranges-index-end.ensures.count in
    c.loop-index.invariant ∙ all_ranges c.args.builder.now c.args.from.now c.loop-index.index (omega arith)
