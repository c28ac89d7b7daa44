use Rattle.tx_join.proofs.Common.{◌<◌, ◌∙◌, ◌++◌, ◌∷◌, [], map, length, ap, subst, sym, arith, length-append, take_all, group_in}
use Rattle.tx_join.proofs.Splits.{list_few, member_within, table_at, mapped_next}
use Rattle.tx_join.proofs.naming.list_in.Goals as goal

pub offset_bounds-groups-index : goal.offset_bounds-groups-index
offset_bounds-groups-index g c =
    let l = member_within c.args.from.now c.list-tried.ensures.rules c.args.exchange c.args.code c.list-tried.result.now c.list-tried.ensures.value c.loop-group.group-index c.group-item.result c.index.result c.loop-group-test.true c.group-item.is c.index.ensures in
    let few = c.list-tried.ensures.rules.few_groups in
    omega arith

pub bounds-groups-index : goal.bounds-groups-index
bounds-groups-index g c = subst (λ n. c.index.result < n) (sym c.requires)
    (member_within c.args.from.now c.list-tried.ensures.rules c.args.exchange c.args.code c.list-tried.result.now c.list-tried.ensures.value c.loop-group.group-index c.group-item.result c.index.result c.loop-group-test.true c.group-item.is c.index.ensures)

pub push-requires : goal.push-requires
push-requires g c =
    let few = list_few c.args.from.now c.list-tried.ensures.rules c.args.exchange c.args.code in
    let same = ap length c.list-tried.ensures.value in
    let at = c.loop-group-test.true in
    let within = c.loop-group.invariant.few in
    omega arith

pub loop-group-preserved : goal.loop-group-preserved
loop-group-preserved g c =
    let p = c.args.from.now in
    let i = c.loop-group.invariant in
    let new = c.push.ensures.items in
    let l = member_within p c.list-tried.ensures.rules c.args.exchange c.args.code c.list-tried.result.now c.list-tried.ensures.value c.loop-group.group-index c.group-item.result c.index.result c.loop-group-test.true c.group-item.is c.index.ensures in
    record {
      few = (let within = i.few in let l = ap length new in let a = length-append c.loop-group.list.items (c.index-groups-index.result ∷ []) in omega arith);
      mapped = λ plan same.
          let at = table_at (group_in plan p) (length p.groups) c.index.result c.args.groups.now c.index-groups-index.result same l c.index-groups-index.is ∙ ap (group_in plan p) c.index.ensures in
          new ∙ (λ j. i.mapped plan same j ++ at j ∷ []) ∙ mapped_next (group_in plan p) c.list-tried.result.now c.loop-group.group-index c.group-item.result c.loop-group-test.true c.group-item.is;
    }

pub returns : goal.returns
returns g c = λ plan same.
    let t = c.loop-group-test.false in
    c.loop-group.invariant.mapped plan same ∙ ap (map (group_in plan c.args.from.now)) (take_all c.loop-group.group-index c.list-tried.result.now (omega arith) ∙ c.list-tried.ensures.value)
