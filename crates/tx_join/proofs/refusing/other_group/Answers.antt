use Rattle.tx_join.proofs.Common.{◌∙◌, ap, sym, length, Some, arith, has_other_group}
use Rattle.tx_join.proofs.Found.{found_at, none_at, fails_next}
use Rattle.tx_join.proofs.refusing.other_group.Goals as goal

pub loop-index-preserved : goal.loop-index-preserved
loop-index-preserved g c = fails_next (has_other_group c.args.old.now c.args.new.now) c.loop-index.index _ _ c.loop-index.invariant c.of-group.ensures c.has_other_group.ensures c.if-has_other_group.false

pub returns-then-has_other_group : goal.returns-then-has_other_group
returns-then-has_other_group g c =
    let t = c.loop-index-test.true in
    let n = c.groups-index-end.ensures.count in
    ap Some c.of-group.ensures ∙ sym (found_at (has_other_group c.args.old.now c.args.new.now) (length c.args.new.now.groups) c.loop-index.index c.loop-index.invariant (omega arith) (ap (has_other_group c.args.old.now c.args.new.now) (sym c.of-group.ensures) ∙ sym c.has_other_group.ensures ∙ c.if-has_other_group.true))

pub returns : goal.returns
returns g c =
    let t = c.loop-index-test.false in
    let n = c.groups-index-end.ensures.count in
    sym (none_at (has_other_group c.args.old.now c.args.new.now) (length c.args.new.now.groups) (λ k l. c.loop-index.invariant k (omega (arith, t, n, l))))
