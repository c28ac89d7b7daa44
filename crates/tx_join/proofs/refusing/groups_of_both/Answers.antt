use Rattle.tx_join.proofs.Common.{◌∙◌, [], ap, sym, arith, option_map_or, group_name, Group, has_group}
use Rattle.tx_join.proofs.Counts.{counted_few, counted, uncounted}
use Rattle.tx_join.proofs.refusing.groups_of_both.Goals as goal
use Rattle.tx_join.proofs.refusing.groups_of_both.Goals.{then-not-has_group, else-not-has_group}

pub overflow_add-count : goal.overflow_add-count
overflow_add-count g c =
    let few = counted_few (λ (x : Group). x.name) (has_group c.args.old.now) c.args.new.now.groups c.loop-index.index _ _ c.loop-index.invariant in
    let a = c.groups-count.ensures.few in
    let b = c.groups-count.ensures.count in
    let d = c.groups-index-end.ensures.few in
    let e = c.groups-index-end.ensures.count in
    omega arith

pub loop-index-preserved : goal.loop-index-preserved
loop-index-preserved g c =
    let t = c.loop-index-test.true in
    let n = c.groups-index-end.ensures.count in
    let named = c.group_name-name.ensures.value ∙ ap (group_name c.args.new.now) c.of.ensures in
    elim c.if-not-has_group.branch [
      | then-not-has_group w ↦ counted (λ (x : Group). x.name) (has_group c.args.old.now) c.args.new.now.groups c.loop-index.index _ _ c.loop-index.invariant (omega arith) c.group_name-name.result.now (λ x e. named ∙ ap (λ o. option_map_or (λ (k : Group). k.name) o []) e) (sym c.has_group.ensures ∙ w.if-not-has_group.true) _ w.count-is
      | else-not-has_group w ↦ uncounted (λ (x : Group). x.name) (has_group c.args.old.now) c.args.new.now.groups c.loop-index.index _ _ c.loop-index.invariant (omega arith) c.group_name-name.result.now (λ x e. named ∙ ap (λ o. option_map_or (λ (k : Group). k.name) o []) e) (sym c.has_group.ensures ∙ w.if-not-has_group.false) _ w.count-is
    ]
