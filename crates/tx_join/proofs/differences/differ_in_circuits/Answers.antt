use Rattle.tx_join.proofs.Common.{◌∙◌, ap, sym, length, is_some, arith, range_with_len, has_other_circuits}
use Rattle.tx_join.proofs.Found.{any_find, found_at, fails_next}
use Rattle.tx_join.proofs.NoDifference.{none_below}
use Rattle.tx_join.proofs.differences.differ_in_circuits.Goals as goal

pub loop-index-preserved : goal.loop-index-preserved
loop-index-preserved g c = fails_next (has_other_circuits c.args.old.now c.args.new.now) c.loop-index.index _ _ c.loop-index.invariant c.of.ensures c.has_other_circuits.ensures c.if-has_other_circuits.false

pub returns-then-has_other_circuits : goal.returns-then-has_other_circuits
returns-then-has_other_circuits g c =
    let t = c.loop-index-test.true in
    let n = c.groups-index-end.ensures.count in
    let test = has_other_circuits c.args.old.now c.args.new.now in
    sym (any_find test (range_with_len 0 (length c.args.old.now.groups)) ∙ ap is_some (found_at test (length c.args.old.now.groups) c.loop-index.index c.loop-index.invariant (omega arith) (ap test (sym c.of.ensures) ∙ sym c.has_other_circuits.ensures ∙ c.if-has_other_circuits.true)))

pub returns : goal.returns
returns g c =
    let t = c.loop-index-test.false in
    let n = c.groups-index-end.ensures.count in
    sym (none_below (has_other_circuits c.args.old.now c.args.new.now) (length c.args.old.now.groups) (λ k l. c.loop-index.invariant k (omega (arith, t, n, l))))
