use Rattle.tx_join.proofs.Common.{◌≡◌, ℕ, ◌-◌, ◌++◌, length, ◌∙◌, ap, sym, subst, arith, append-nil, bars_of_code, BarsDiffer}
use Rattle.std.specs.List.{flat_map, range_with_len}
use Rattle.tx_join.proofs.Splits.{code_bars_differ, code_barred}
use Rattle.tx_join.proofs.over.bar_codes.Goals as goal

pub loop-index-init : goal.loop-index-init
loop-index-init g c =
    let n = c.args.codes in
    let none : n - n ≡ 0 = omega arith in
    record {
      barred = sym (ap (λ k. c.args.bars.now ++ flat_map (bars_of_code c.args.network.now) (range_with_len n k)) none ∙ append-nil c.args.bars.now);
      within = omega arith;
    }

pub bar_code-requires : goal.bar_code-requires
bar_code-requires g c =
    let j = c.args.network.now in
    let t = c.loop-index-test.true in
    let n = c.codes-index-end.ensures.count in
    subst (λ (k : ℕ). BarsDiffer (c.loop-index.bars ++ bars_of_code j k)) (sym c.of.ensures)
    (code_bars_differ j c.args.bars.now c.loop-index.bars c.args.codes c.loop-index.index c.loop-index.auto.index (omega arith) c.loop-index.invariant.barred c.requires)

pub loop-index-preserved : goal.loop-index-preserved
loop-index-preserved g c =
    let j = c.args.network.now in
    let t = c.loop-index-test.true in
    let n = c.codes-index-end.ensures.count in
    record {
      barred = code_barred j c.args.bars.now c.loop-index.bars c.args.codes c.loop-index.index c.loop-index.auto.index (omega arith) c.loop-index.invariant.barred _
          (c.in_ok-bar_code.ensures ∙ ap (λ k. c.loop-index.bars ++ bars_of_code j k) c.of.ensures);
      within = omega arith;
    }

pub returns : goal.returns
returns g c =
    let j = c.args.network.now in
    let t = c.loop-index-test.false in
    let a = c.loop-index.auto.index in
    let w = c.loop-index.invariant.within in
    let n = c.codes-index-end.ensures.count in
    let same : c.loop-index.index - c.args.codes ≡ length j.codes - c.args.codes = omega arith in
    c.loop-index.invariant.barred ∙ ap (λ k. c.args.bars.now ++ flat_map (bars_of_code j) (range_with_len c.args.codes k)) same
